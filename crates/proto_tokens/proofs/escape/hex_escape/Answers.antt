use Rattle.std.proofs.Common.{arith, add_comm}
use Rattle.proto_tokens.proofs.Escapes.{hex_by_digits, digits_found, digits_refused}
use Rattle.proto_tokens.proofs.escape.hex_escape.Goals as goal

pub returns-then-len-eq0 : goal.returns-then-len-eq0
returns-then-len-eq0 c = digits_refused _ _ _ _ _ (hex_by_digits _ c.requires _) _ c.digits_len-len.ensures.run
    (λ pos. absurd (omega (arith, pos, c.if-len-eq0.true)))

pub returns-in_err-byte : goal.returns-in_err-byte
returns-in_err-byte c = rw c.from_residual.ensures (digits_refused _ _ _ _ _ (hex_by_digits _ c.requires _) _
    c.digits_len-len.ensures.run (λ pos. c.in_err-byte.ensures))

pub returns : goal.returns
returns c = rw (add_comm c.digits_len-len.result 2) (digits_found _ _ _ _ _ (hex_by_digits _ c.requires _) _
    c.digits_len-len.ensures.run _ (omega arith) c.in_ok-byte.ensures (omega arith))
