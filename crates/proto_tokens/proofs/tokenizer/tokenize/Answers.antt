use Rattle.proto_tokens.proofs.Unique.{of_every_spelling, of_every_fault}
use Rattle.proto_tokens.proofs.tokenizer.tokenize.Goals as goal

pub returns-clause-every_spelling : goal.returns-clause-every_spelling
returns-clause-every_spelling c = rw (← c.get.ensures.value) (of_every_spelling _ _ _ c.first_answer.ensures.tokens)

pub returns-clause-every_fault : goal.returns-clause-every_fault
returns-clause-every_fault c = rw (← c.get.ensures.value) (of_every_fault _ _ _ c.first_answer.ensures.tokens)
