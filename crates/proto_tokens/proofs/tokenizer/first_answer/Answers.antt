use Rattle.proto_tokens.proofs.Common.{common_steps, arith}
use Rattle.proto_tokens.proofs.CutLemmas.{fault_answer, placed_within}
use Rattle.proto_tokens.proofs.tokenizer.first_answer.Goals as goal

pub returns-in_err-items-in-Ok-clause-tokens : goal.returns-in_err-items-in-Ok-clause-tokens
returns-in_err-items-in-Ok-clause-tokens c = grind (arith, common_steps, fault_answer)

pub returns-in_err-items-in-Ok-clause-within : goal.returns-in_err-items-in-Ok-clause-within
returns-in_err-items-in-Ok-clause-within c = grind (arith, common_steps, placed_within)
