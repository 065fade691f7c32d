use Rattle.proto_tokens.proofs.Common.{common_steps, arith}
use Rattle.proto_tokens.proofs.Runs.{begins_from}
use Rattle.proto_tokens.proofs.Pieces.{longest_blanks, found_identifier, fault_here}
use Rattle.proto_tokens.proofs.piece.piece_at.Goals as goal

pub returns-then-is_blank : goal.returns-then-is_blank
returns-then-is_blank c = grind (arith, common_steps, begins_from, longest_blanks)

pub returns-then-is_letter : goal.returns-then-is_letter
returns-then-is_letter c = found_identifier _ _ (grind (arith, common_steps, begins_from)) c.identifier-name.ensures

pub returns-in-Err : goal.returns-in-Err
returns-in-Err c = fault_here _ _ _ _ _ c.bytes_from-rest.ensures.rest c.in-Err.ensures c.fault_at.ensures

pub returns-in-Err-comment_or_punctuation : goal.returns-in-Err-comment_or_punctuation
returns-in-Err-comment_or_punctuation c = fault_here _ _ _ _ _ c.bytes_from-rest.ensures.rest
    c.in-Err-comment_or_punctuation.ensures c.fault_at-in-Err-comment_or_punctuation.ensures
