use Rattle.std.proofs.Common.{arith, add_comm}
use Rattle.proto_tokens.proofs.Escapes.{octal_by_digits, digits_found, digits_refused, digits_begin}
use Rattle.proto_tokens.proofs.escape.octal_escape.Goals as goal

pub returns-in_err-byte : goal.returns-in_err-byte
returns-in_err-byte c = rw c.from_residual.ensures (digits_refused _ _ _ _ _ (octal_by_digits _ c.requires) _
    c.digits_len-len.ensures.run (λ pos. c.in_err-byte.ensures))

pub returns : goal.returns
returns c = rw (add_comm c.digits_len-len.result 1) (digits_found _ _ _ _ _ (octal_by_digits _ c.requires) _
    c.digits_len-len.ensures.run _ (digits_begin c.args.digits.now 3 _ c.requires (omega arith)
    c.digits_len-len.ensures.run) c.in_ok-byte.ensures (omega arith))
