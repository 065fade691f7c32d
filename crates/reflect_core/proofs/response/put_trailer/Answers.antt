use Rattle.reflect_core.proofs.Common.{◌≡◌, [], ◌∷◌, length, ap, arith, length-append, decimal, common_steps, trailer}
use Rattle.std.proofs.lemmas.Fmt.{length-decimal-le}
use Rattle.reflect_core.proofs.response.put_trailer.Goals as goal

pub overflow_cast-len : goal.overflow_cast-len
overflow_cast-len c =
    let digits = length-decimal-le 3 c.args.status (omega arith) (omega arith) (omega arith) in
    let sum = length-append (decimal c.args.status) (13 ∷ 10 ∷ []) in
    omega (arith, ap length c.in_ok-text.ensures.ok, digits, sum, c.len.ensures)

pub returns : goal.returns
returns c =
    let message : c.as_bytes.result.now ≡ trailer c.args.status = cc (c.in_ok-text.ensures.ok) in
    let size : c.len.result ≡ length (trailer c.args.status) = omega (arith, ap length message, c.len.ensures) in
    grind (arith, common_steps, message, size)
