use Rattle.proto_checks.proofs.Common.{gains_last}
use Rattle.proto_checks.proofs.field_options.put_wrong_on_field.Goals as goal

pub returns : goal.returns
returns c = gains_last _ _ _ c.in_ok-put_wrongly_packed.ensures c.put_wrongly_typed.ensures
