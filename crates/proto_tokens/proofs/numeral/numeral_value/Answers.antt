use Rattle.std.proofs.Common.{inl, refl, sym}
use Rattle.proto_tokens.proofs.Numbers.{not_digits, has_value}
use Rattle.proto_tokens.proofs.numeral.numeral_value.Goals as goal

pub returns-then-not-are_digits : goal.returns-then-not-are_digits
returns-then-not-are_digits c = inl (
  refl,
  λ n is.
      not_digits _ _ n (sym c.if-not-are_digits.ensures) ((c.numeral_parts-base.ensures.parts n).0 is),
)

pub returns : goal.returns
returns c = has_value _ _ _ _ _ (sym c.if-not-are_digits.ensures) c.numeral_parts-base.ensures.parts
    c.digits_value.ensures c.ok_or.ensures.value
