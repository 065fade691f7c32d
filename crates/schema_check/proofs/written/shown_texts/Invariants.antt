use Rattle.std.proofs.Common.{take}
use Rattle.schema_check.specs.Texts.{AreTextsFor}
use Rattle.schema_check.proofs.written.shown_texts.Given as goal

abbrev pub invariant-loop-source : goal.invariant-loop-source
invariant-loop-source g l = AreTextsFor (take l.source-index l.sources) l.texts.items
