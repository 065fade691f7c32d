use Rattle.proto_checks.proofs.Common.{on_ok_weaker, each_flat, each_map, each_nil, each_single, gains_none, gains_same, gains_union, EnumBreaks, OneofBreaks, FieldOptionsBreak, optioned_in_oneof, oneof_field}
use Rattle.proto_checks.proofs.body.put_oneof_item_faults.Goals as goal

pub returns : goal.returns
returns c =
    let put = rw c.as_slice.ensures at c.in_ok-put_each.ensures in
    let members = gains_same (gains_same put (each_flat _ oneof_field _))
    (each_map FieldOptionsBreak optioned_in_oneof _) in
    on_ok_weaker _ (λ own. gains_union (gains_union members (gains_same own (each_single OneofBreaks _)))
    (gains_none (each_nil EnumBreaks))) c.put_oneof_faults.ensures
