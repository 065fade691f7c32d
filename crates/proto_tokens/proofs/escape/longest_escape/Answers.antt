use Rattle.proto_tokens.proofs.Common.{common_steps, arith}
use Rattle.proto_tokens.proofs.Escapes.{simple_behind, none_behind}
use Rattle.proto_tokens.proofs.escape.longest_escape.Goals as goal

pub returns-in_err-simple_escape-in_default : goal.returns-in_err-simple_escape-in_default
returns-in_err-simple_escape-in_default c = grind (arith, common_steps, none_behind)

pub returns-in_ok-simple_escape-in_default : goal.returns-in_ok-simple_escape-in_default
returns-in_ok-simple_escape-in_default c =
    simple_behind _ _ _ c.in_ok-form.ensures.value c.in_ok-simple_escape-in_default.ensures (omega arith)
