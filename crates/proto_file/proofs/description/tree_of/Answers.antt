use Rattle.std.proofs.Common.{refl, ap, ◌∙◌}
use Rattle.proto_tokens.specs.ProgramTokens.{tokens_of}
use Rattle.proto_syntax.specs.Told.{place_of_token}
use Rattle.proto_file.specs.Local.{of_tokens, of_grammar}
use Rattle.proto_file.proofs.description.tree_of.Goals as goal

pub returns-in-Err-At-clause-fault : goal.returns-in-Err-At-clause-fault
returns-in-Err-At-clause-fault c =
    rw (c.at.ensures, c.in-Err-At.place-is, c.in-Err-At.kind-is)
    (of_tokens refl (rw c.in-Err-At.field-0-is at c.in-Err-At.ensures.fault))

pub returns-in-Err-At-parse-clause-fault : goal.returns-in-Err-At-parse-clause-fault
returns-in-Err-At-parse-clause-fault c =
    let ts = tokens_of c.in-Ok.tokens in
    let (k, fault, is_kind, at) = rw c.in-Err-At-parse.field-0-is at c.in-Err-At-parse.ensures.fault in
    rw (c.at-in-Err-At-parse.ensures, c.in-Err-At-parse.place-is, c.in-Err-At-parse.kind-is) (of_grammar refl
    (ts, k, c.in-Ok.ensures.tokens, fault, is_kind, at ∙ ap (place_of_token ts k) c.in-Ok.ensures.end))
