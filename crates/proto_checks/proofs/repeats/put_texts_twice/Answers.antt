use Rattle.proto_checks.proofs.Common.{refl, arith, ◌∙◌, sym, not-false, not-true, common_steps, length-map, clashes_all, clashes_start, passed_hit, passed_skip, exact_text}
use Rattle.proto_checks.proofs.Clashes.{stands_made}
use Rattle.proto_checks.proofs.repeats.put_texts_twice.Goals.{then-not-branch+in_ok-put_fault, else-not-branch}
use Rattle.proto_checks.proofs.repeats.put_texts_twice.Goals as goal

pub loop-item-init : goal.loop-item-init
loop-item-init g c = record { clashes = clashes_start; seen = λ q. grind (arith, common_steps) }

pub loop-item-preserved : goal.loop-item-preserved
loop-item-preserved g c =
    let stands = rw (sym (c.marked.view_is ∙ c.marked_text-marked.ensures)) at
    (stands_made g.T.HasText.mark c.args.items.now _ _ (omega arith) c.item-item.is) in
    let key = c.marked.inside.text in
    let stored = c.in_ok-insert.ensures in
    elim c.if-not-branch.branch [
      | then-not-branch+in_ok-put_fault w ↦ rw w.faults-is (passed_hit _ _ key exact_text stands refl
          stored.updates (not-false _ (sym stored.added ∙ w.if-not-branch.true)) c.loop-item.invariant
          w.in_ok-put_fault.ensures)
      | else-not-branch w ↦ rw w.faults-is (passed_skip _ _ key exact_text stands refl stored.updates
          (not-true _ (sym stored.added ∙ w.if-not-branch.false)) c.loop-item.invariant)
    ]

pub returns : goal.returns
returns g c = clashes_all (omega (arith, length-map c.args.items.now g.T.HasText.mark))
    c.loop-item.invariant.clashes
