-- The answers of the program.
use Rattle.reflect_core.specs.declared.answer.Answer as rust
use Rattle.reflect_core.specs.declared.answer.Answer.TheVariants as answers
use Rattle.reflect_core.specs.Answer.{Answer, file, extensions, services, not_found, empty_request}

-- an answer of the program
abbrev pub answer_of : rust.Answer → Answer
answer_of (answers.File a) = file a
answer_of (answers.Extensions name) = extensions name.now
answer_of answers.Services = services
answer_of answers.NotFound = not_found
answer_of answers.EmptyRequest = empty_request
