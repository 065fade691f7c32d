use Rattle.reflect_core.proofs.Common.{named, not_named}
use Rattle.reflect_core.proofs.answer.named_file.Goals as goal

pub returns-in-Some-clause-answer : goal.returns-in-Some-clause-answer
returns-in-Some-clause-answer c = named _ _ (rw c.in-Some.is at c.file_id.ensures.file)

pub returns-in-None-clause-answer : goal.returns-in-None-clause-answer
returns-in-None-clause-answer c = not_named _ (rw c.in-None.is at c.file_id.ensures.file)
