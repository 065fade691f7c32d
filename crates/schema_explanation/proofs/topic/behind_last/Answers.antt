use Rattle.std.proofs.Common.{◌∙◌, arith}
use Rattle.schema_explanation.proofs.Words.{behind_found, behind_none}
use Rattle.schema_explanation.proofs.topic.behind_last.Goals as goal

pub returns-in-Some : goal.returns-in-Some
returns-in-Some c =
    let cut = c.in-Some.ensures.cases in
    cut.4 ∙ behind_found c.args.sign c.args.text.now cut.0 cut.1 c.requires cut.2 (omega (arith, cut.7))

pub returns-in-None : goal.returns-in-None
returns-in-None c = behind_none c.args.sign c.args.text.now c.requires c.in-None.ensures.cases
