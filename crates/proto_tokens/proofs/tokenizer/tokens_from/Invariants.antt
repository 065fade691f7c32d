use Rattle.proto_tokens.proofs.Common.{length, ◌-◌, map, spelled}
use Rattle.proto_tokens.proofs.CutLemmas.{IsCutUpTo}
use Rattle.proto_tokens.proofs.tokenizer.tokens_from.Given as goal

abbrev pub invariant-loop-at : goal.invariant-loop-at
invariant-loop-at l = IsCutUpTo l.source l.start l.at (map spelled l.tokens.items)

abbrev pub decreases-loop-at : goal.decreases-loop-at
decreases-loop-at l = length l.source - l.at
