use Rattle.std.proofs.Common.{rules}
use Rattle.std.proofs.lemmas.Result.{IfErr-weaker}
use Rattle.proto_file.proofs.OneLocal.{rule_is_first, tells_more, text_is_first}
use Rattle.proto_file.proofs.description.describe.Goals as goal

pub returns-in_err-file-clause-first : goal.returns-in_err-file-clause-first
returns-in_err-file-clause-first c =
    let refused = tells_more _ _ (text_is_first c.args.limits.now c.args.name.now c.args.text.now) _
    c.in_err-file.ensures.fault in
    search (rules, refused)

pub returns-clause-first : goal.returns-clause-first
returns-clause-first c = IfErr-weaker c.description_of.result _ _ (tells_more _ _
    (λ f w. rule_is_first c.args.limits.now c.args.name.now c.args.text.now c.in_ok-file.file f
    c.in_ok-file.ensures.file w.0 w.1)) c.description_of.ensures.first
