use Rattle.proto_checks.proofs.Common.{arith, sym, each_cons, each_flat, gains_each, gains_next, gains_same, gains_start, gains_union, names_of}
use Rattle.proto_checks.proofs.Named.{own_names, names_out}
use Rattle.proto_checks.proofs.names.+put_message_name_faults.Goals as goal

pub loop-nested-init : goal.loop-nested-init
loop-nested-init t c = gains_start

pub loop-nested-preserved : goal.loop-nested-preserved
loop-nested-preserved t c = gains_next _ (omega arith, sym c.nested-item.is) c.loop-nested.invariant
    c.in_ok-put_message_name_faults.ensures

pub returns : goal.returns
returns t c =
    let own = rw (c.as_slice-fields.ensures, c.as_slice-reserved.ensures, c.as_slice.ensures) at
    c.in_ok-put_own_name_faults.ensures in
    let nested = gains_same (gains_each (omega arith) c.loop-nested.invariant) (each_flat _ names_of _) in
    rw (names_out c.args.message.now, ← c.as_slice-nested-items.ensures)
    (gains_same (gains_union own nested) (each_cons _ (own_names c.args.message.now) _))
