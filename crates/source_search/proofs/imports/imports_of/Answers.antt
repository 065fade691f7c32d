use Rattle.std.proofs.Common.{map, string_bytes}
use Rattle.std.proofs.lemmas.Result.{IfOk-weaker}
use Rattle.proto_tokens.specs.ProgramTokens.{tokens_of}
use Rattle.source_search.proofs.Importing.{file_imports, no_imports, no_tree}
use Rattle.source_search.proofs.imports.imports_of.Goals as goal

pub returns-in-Err-At : goal.returns-in-Err-At
returns-in-Err-At c = rw c.new.ensures.items (no_imports c.args.limits.now c.args.text.now
    (λ file is. let e = rw c.in-Err-At.field-0-is at (c.in-Err-At.ensures.every_spelling is.0 is.1) in cc))

pub returns-in-Ok-parse : goal.returns-in-Ok-parse
returns-in-Ok-parse c = IfOk-weaker c.names_below.result _ _
    (λ names. file_imports c.args.limits.now c.args.text.now (tokens_of c.in-Ok.tokens) c.in-Ok.ensures.every_spelling
    c.in-Ok.ensures.tokens c.in-Ok-parse.file c.in-Ok-parse.ensures.found c.in-Ok-parse.ensures.every_tree
    (map string_bytes names.items))
    c.names_below.ensures

pub returns : goal.returns
returns c = rw c.new-in-Err-At-parse.ensures.items
    (no_tree c.args.limits.now c.args.text.now (tokens_of c.in-Ok.tokens) c.in-Ok.ensures.every_spelling
    (λ x tree. let e = rw c.in-Err-At-parse.field-0-is at (c.in-Err-At-parse.ensures.every_tree x tree) in cc))
