use Rattle.std.proofs.Common.{take}
use Rattle.schema_check.specs.Open.{FindsSources}
use Rattle.schema_check.proofs.pages.by_name.Given as goal

abbrev pub invariant-loop-source : goal.invariant-loop-source
invariant-loop-source l = FindsSources (take l.source-index l.sources) l.named
