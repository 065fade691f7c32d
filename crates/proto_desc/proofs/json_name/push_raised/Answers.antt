use Rattle.std.proofs.Common.{arith, inl, inr, ◌∙◌}
use Rattle.std.proofs.lemmas.Bool.Decides.{nat_tests}
use Rattle.proto_desc.proofs.Raised.{so_far_start, so_far_dropped, so_far_pushed, so_far_end, raised_as}
use Rattle.proto_desc.proofs.json_name.push_raised.Goals as goal
use Rattle.proto_desc.proofs.json_name.push_raised.Goals.{then-before-eq95, else-before-eq95}

pub loop-letter-init : goal.loop-letter-init
loop-letter-init c = rw (c.into_iter-letter-iterator.ensures.into_iter_gives, c.chars-letter-items.ensures.rest)
    (so_far_start _ c.args.name.now c.args.first c.utf8.name)

pub loop-letter-preserved-in_ok-push : goal.loop-letter-preserved-in_ok-push
loop-letter-preserved-in_ok-push c = so_far_pushed _ _ _ _ c.in-Some.letter c.if-before-eq95.push _ _
    c.loop-letter.invariant c.in-Some.ensures.steps.0 (grind (arith, nat_tests))
    (raised_as c.loop-letter.before c.in-Some.letter c.if-before-eq95.push
    (elim c.if-before-eq95.branch [
      | then-before-eq95 w ↦ inl (w.if-before-eq95.true, w.push-is ∙ c.to_ascii_uppercase-upper.ensures.value)
      | else-before-eq95
          w ↦ inr (w.if-before-eq95.false, w.push-is)
    ])) c.in_ok-push.ensures.bytes

pub loop-letter-preserved : goal.loop-letter-preserved
loop-letter-preserved c = so_far_dropped _ _ _ _ c.in-Some.letter _
    c.loop-letter.invariant c.in-Some.ensures.steps.0 c.if-letter-ne95.false

pub returns : goal.returns
returns c = so_far_end _ _ _ _ c.loop-letter.invariant c.in-None.ensures.steps.0.0
