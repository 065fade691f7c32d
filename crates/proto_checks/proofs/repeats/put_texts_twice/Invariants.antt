use Rattle.proto_checks.proofs.Common.{map, Passed, text_cmp, spot, Marked}
use Rattle.proto_checks.proofs.repeats.put_texts_twice.Given as goal

abbrev pub invariant-loop-item : goal.invariant-loop-item
invariant-loop-item g l =
    Passed text_cmp (λ k. k.now) (λ (a : Marked). a.text) (λ (a : Marked). spot a.place l.fn.kind)
    (map g.T.HasText.mark l.items) l.seen l.item-index l.initial.faults.items l.faults.items
