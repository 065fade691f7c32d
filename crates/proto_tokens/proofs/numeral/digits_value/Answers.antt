use Rattle.proto_tokens.proofs.Common.{common_steps, arith}
use Rattle.proto_tokens.proofs.Numbers.{too_big_from_step}
use Rattle.proto_tokens.proofs.numeral.digits_value.Goals as goal

pub returns-in_err-checked_mul : goal.returns-in_err-checked_mul
returns-in_err-checked_mul c = grind (arith, common_steps, too_big_from_step)

pub returns-in_err-value : goal.returns-in_err-value
returns-in_err-value c = grind (arith, common_steps, too_big_from_step)
