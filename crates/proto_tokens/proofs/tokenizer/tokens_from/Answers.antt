use Rattle.proto_tokens.proofs.Common.{common_steps, arith}
use Rattle.proto_tokens.proofs.CutLemmas.{gap_passed, token_pushed}
use Rattle.proto_tokens.proofs.tokenizer.tokens_from.Goals as goal

pub loop-at-preserved-in_ok-push : goal.loop-at-preserved-in_ok-push
loop-at-preserved-in_ok-push c =
    token_pushed _ _ _ _ _ _ _ _ c.loop-at.invariant c.in_ok-kind.ensures c.in-Some.is c.in_ok-push.ensures.items

pub loop-at-preserved : goal.loop-at-preserved
loop-at-preserved c = grind (arith, common_steps, gap_passed)
