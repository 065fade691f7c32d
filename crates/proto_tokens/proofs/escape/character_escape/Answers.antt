use Rattle.proto_tokens.proofs.Common.{sym, subst, arith, IsScalar}
use Rattle.proto_tokens.proofs.Numbers.{not_digits, are_written}
use Rattle.proto_tokens.proofs.Escapes.{character_found, character_refused}
use Rattle.proto_tokens.proofs.escape.character_escape.Goals as goal

pub returns-then-digits-count : goal.returns-then-digits-count
returns-then-digits-count c = character_refused _ _ c.requires _
    (λ n within writes scalar. omega (arith, within, c.if-digits-count.true))

pub returns-then-not-are_digits : goal.returns-then-not-are_digits
returns-then-not-are_digits c = character_refused _ _ c.requires _ (λ n within writes scalar.
    not_digits _ _ _ (sym c.if-not-are_digits.ensures) writes)

pub returns-in_err-character : goal.returns-in_err-character
returns-in_err-character c = rw c.from_residual.ensures (character_refused _ _ c.requires _
    (λ n within writes scalar. c.in_err-character.ensures (subst IsScalar writes.value scalar)))

pub returns : goal.returns
returns c = character_found _ _ c.requires _ _ (omega (arith, c.if-digits-count.false))
    (are_written _ _ _ (sym c.if-not-are_digits.ensures) c.in_ok-character.ensures.0) c.in_ok-character.ensures.1
