use Rattle.std.proofs.Common.{arith}
use Rattle.std.proofs.lemmas.Result.{err_from_is_err_and}
use Rattle.proto_tokens.proofs.Pieces.{number_fault, longest_number}
use Rattle.proto_tokens.proofs.piece.number.Goals as goal

pub returns-in_err-value : goal.returns-in_err-value
returns-in_err-value c = let p = err_from_is_err_and c.from_residual.result c.from_residual.ensures.1 in
    rw (p.1, p.2) (number_fault c.args.rest.now c.in_err-value.field-0.0 c.requires
    (rw c.numeric_len-len.ensures.run at c.in_err-value.ensures))

pub returns : goal.returns
returns c = rw c.numeric_len-len.ensures.run (longest_number _ _
    (rw c.numeric_len-len.ensures.run at c.in_ok-value.ensures) (omega arith))
