use Rattle.std.proofs.lemmas.Result.{IfOk-weaker}
use Rattle.proto_tokens.specs.ProgramTokens.{tokens_of}
use Rattle.skipped_sources.proofs.Losses.{file_loses, no_file_loses, no_tree_loses}
use Rattle.skipped_sources.proofs.finding.lost_in.Goals as goal

pub returns-in-Err-At : goal.returns-in-Err-At
returns-in-Err-At c = rw c.new.ensures.items (λ names set. no_file_loses c.args.limits.now c.args.text.now
    (λ file is. let e = rw c.in-Err-At.field-0-is at (c.in-Err-At.ensures.every_spelling is.0 is.1) in cc) names)

pub returns-in-Ok-parse : goal.returns-in-Ok-parse
returns-in-Ok-parse c = IfOk-weaker c.lost_in_file.result _ _
    (λ spans told names set. file_loses c.args.limits.now c.args.text.now (tokens_of c.in-Ok.tokens)
    c.in-Ok-parse.file c.in-Ok.ensures.tokens c.in-Ok-parse.ensures.found names spans.items (told names set))
    c.lost_in_file.ensures

pub returns : goal.returns
returns c = rw c.new-in-Err-At-parse.ensures.items
    (λ names set. no_tree_loses c.args.limits.now c.args.text.now (tokens_of c.in-Ok.tokens)
    c.in-Ok.ensures.every_spelling
    (λ x tree. let e = rw c.in-Err-At-parse.field-0-is at (c.in-Err-At-parse.ensures.every_tree x tree) in cc) names)
