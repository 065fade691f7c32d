use Rattle.proto_checks.proofs.Common.{arith, rules, answers_always, gains_as, gains_last, gains_none, gains_union, spot, Share}
use Rattle.proto_checks.proofs.Clashes.{later_append, is_apart, ranges_none}
use Rattle.proto_base.specs.declared.kind.Kind.TheVariants as kind
use Rattle.proto_checks.proofs.ranges.+put_overlaps.Goals as goal

pub returns-then-is_sorted_by : goal.returns-then-is_sorted_by
returns-then-is_sorted_by t c = gains_none (ranges_none c.args.ranges.now
    (c.if-is_sorted_by.ensures.cases is_apart (answers_always _ _ _ (λ f a r g called. search rules))))

pub put_overlaps-requires : goal.put_overlaps-requires
put_overlaps-requires t c =
    let found = c.if-is_sorted_by.ensures.cases is_apart (answers_always _ _ _ (λ f a r g called. search rules)) in
    omega (arith, found.1)

pub put_overlaps-requires-2 : goal.put_overlaps-requires-2
put_overlaps-requires-2 t c =
    let found = c.if-is_sorted_by.ensures.cases is_apart (answers_always _ _ _ (λ f a r g called. search rules)) in
    omega (arith, found.1)

pub returns : goal.returns
returns t c = rw c.split_at.ensures.by_index.0 (gains_as _ _ _ (gains_last _ _ _
    (gains_union c.in_ok-put_overlaps.ensures c.in_ok-put_overlaps-2.ensures) c.put_across.ensures)
    (later_append Share (λ s. spot s.place kind.ReservedOverlap) _ _))
