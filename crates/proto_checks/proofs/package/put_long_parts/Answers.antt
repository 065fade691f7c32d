use Rattle.proto_checks.proofs.Common.{arith, ap, ◌∙◌, sym, each_cons, each_map, gains_each, gains_next, gains_same, gains_start, gains_union, IsPartTooLong, part_name}
use Rattle.proto_tree.specs.declared.name.FullName.{FullName}
use Rattle.proto_checks.proofs.package.put_long_parts.Goals as goal

pub loop-part-init : goal.loop-part-init
loop-part-init c = gains_start

pub loop-part-preserved : goal.loop-part-preserved
loop-part-preserved c = gains_next _ (omega arith, sym c.part-item.is) c.loop-part.invariant
    (rw (ap part_name c.part.view_is) at c.in_ok-put_long_part-2.ensures)

pub returns : goal.returns
returns c =
    let Long = IsPartTooLong c.args.limits.now c.args.place in
    let rest = gains_same (gains_each (omega arith) c.loop-part.invariant) (each_map Long part_name _) in
    let own = rw (ap (λ (n : FullName). n.first.text) c.name.view_is) at c.in_ok-put_long_part.ensures in
    rw (c.as_slice-part-items.ensures ∙ ap (λ (n : FullName). n.rest) c.name.view_is) at
    (gains_same (gains_union own rest) (each_cons Long _ _))
