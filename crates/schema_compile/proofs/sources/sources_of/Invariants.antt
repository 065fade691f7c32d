use Rattle.std.proofs.Common.{take}
use Rattle.schema_compile.specs.Sources.{AreSourcesOf}
use Rattle.schema_compile.proofs.sources.sources_of.Given as goal

abbrev pub invariant-loop-text : goal.invariant-loop-text
invariant-loop-text l = AreSourcesOf (take l.text-index l.texts) l.sources.items
