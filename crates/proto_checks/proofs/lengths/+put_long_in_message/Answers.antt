use Rattle.proto_checks.proofs.Common.{arith, sym, each_cons, each_append, each_flat, gains_each, gains_next, gains_same, gains_start, gains_union, declared_by_message}
use Rattle.proto_desc.proofs.Declared.{declared_before, declared_out, own_declared, scope_in}
use Rattle.proto_checks.proofs.lengths.+put_long_in_message.Goals as goal

pub loop-nested-init : goal.loop-nested-init
loop-nested-init t c = λ scope at. gains_start

pub loop-nested-preserved : goal.loop-nested-preserved
loop-nested-preserved t c = λ scope at.
    let len = rw c.as_str-name.ensures at (c.full_len-len.ensures scope at) in
    gains_next _ (omega arith, sym c.nested-item.is) (c.loop-nested.invariant scope at)
    (c.in_ok-put_long_in_message.ensures (scope_in c.args.message.now scope) len)

pub returns : goal.returns
returns t c = λ scope at.
    let m = c.args.message.now in
    let len = rw c.as_str-name.ensures at (c.full_len-len.ensures scope at) in
    let own = rw c.as_str-name.ensures at (c.in_ok-put_long_name.ensures scope at) in
    let inside = rw (c.as_slice-fields.ensures, c.as_slice-oneofs.ensures, c.as_slice.ensures) at
    (c.in_ok-put_long_inside.ensures (scope_in m scope) len) in
    let before = gains_same (gains_union own inside) (each_cons _ (own_declared m scope) _) in
    let nested = gains_same (gains_each (omega arith) (c.loop-nested.invariant scope at))
    (each_flat _ (λ n. declared_by_message n (scope_in m scope)) _) in
    rw (declared_out m scope, ← c.as_slice-nested-items.ensures)
    (gains_same (gains_union before nested) (each_append _ (declared_before m scope) _))
