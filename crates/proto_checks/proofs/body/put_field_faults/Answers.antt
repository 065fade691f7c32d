use Rattle.proto_checks.proofs.Common.{◌≡◌, arith, ◌&&◌, common_steps, is_repeated, is_packed_type}
use Rattle.proto_checks.proofs.body.put_field_faults.Goals as goal

pub returns : goal.returns
returns c =
    let field = c.args.field.now in
    let packed : c.if-is_repeated.can_be_packed ≡ (is_repeated field.label && is_packed_type field.field_type) =
    grind (arith, common_steps) in
    rw (packed, c.is_wide-is_wide_integer.ensures) at c.put_field_option_faults.ensures
