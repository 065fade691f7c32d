use Rattle.proto_tokens.proofs.Common.{◌≡◌, take, digits_value}
use Rattle.proto_tokens.proofs.numeral.digits_value.Given as goal

abbrev pub invariant-loop-digit : goal.invariant-loop-digit
invariant-loop-digit l = l.value ≡ digits_value l.base (take l.digit-index l.digits)
