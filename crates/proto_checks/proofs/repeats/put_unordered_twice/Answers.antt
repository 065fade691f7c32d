use Rattle.proto_checks.proofs.Common.{refl, arith, ◌∙◌, sym, not-false, not-true, common_steps, clashes_all, clashes_start, passed_hit, passed_skip, exact_number, item_at}
use Rattle.proto_checks.proofs.Elements.{no_number}
use Rattle.proto_checks.proofs.repeats.put_unordered_twice.Goals.{then-not-branch+in_ok-put_fault, else-not-branch}
use Rattle.proto_checks.proofs.repeats.put_unordered_twice.Goals as goal

pub loop-marked-init : goal.loop-marked-init
loop-marked-init c = record { clashes = clashes_start; seen = λ q. grind (arith, common_steps) }

pub loop-marked-preserved : goal.loop-marked-preserved
loop-marked-preserved c =
    let stands = item_at c.args.numbers.now c.loop-marked.marked-index no_number (omega arith) in
    let stored = c.in_ok-insert.ensures in
    elim c.if-not-branch.branch [
      | then-not-branch+in_ok-put_fault w ↦ rw w.faults-is (passed_hit _ _ _ exact_number stands refl
          stored.updates (not-false _ (sym stored.added ∙ w.if-not-branch.true)) c.loop-marked.invariant
          w.in_ok-put_fault.ensures)
      | else-not-branch w ↦ rw w.faults-is (passed_skip _ _ _ exact_number stands refl stored.updates
          (not-true _ (sym stored.added ∙ w.if-not-branch.false)) c.loop-marked.invariant)
    ]

pub returns : goal.returns
returns c = clashes_all (omega arith) c.loop-marked.invariant.clashes
