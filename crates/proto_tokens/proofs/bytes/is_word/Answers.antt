-- The table is held against the definition at each of the 256 bytes, by computing.
use Rattle.proto_tokens.proofs.Common.{not, nat_eq, get_or, refl, arith, agree_below_at, is_word}
use Rattle.proto_tokens.specs.declared.bytes.TheConstants.{WORD_BYTES}
use Rattle.proto_tokens.proofs.bytes.is_word.Goals as goal

pub returns : goal.returns
returns c = agree_below_at (λ k. not (nat_eq (get_or WORD_BYTES k 0) 44)) is_word 256 c.args.byte refl (omega arith)
