use Rattle.reflect_core.proofs.Common.{listed, nothing_asked}
use Rattle.reflect_core.proofs.answer.answer_to.Goals as goal

pub returns-in-ListServices-clause-answer : goal.returns-in-ListServices-clause-answer
returns-in-ListServices-clause-answer c = rw c.in-ListServices.is listed

pub returns-in-Nothing-clause-answer : goal.returns-in-Nothing-clause-answer
returns-in-Nothing-clause-answer c = rw c.in-Nothing.is nothing_asked
