use Rattle.std.proofs.Common.{◌≡◌, take}
use Rattle.source_skip.specs.Pieces.{loose_tokens}
use Rattle.source_skip.specs.Skipped.{goes, without}
use Rattle.source_skip.proofs.skipping.skip.Given as goal

abbrev pub invariant-loop-span : goal.invariant-loop-span
invariant-loop-span l = l.text ≡ without 0 (take l.span-index (goes (loose_tokens l.fn.text))) l.fn.text
