use Rattle.proto_links.specs.Linked.{sees}
use Rattle.proto_names.proofs.Common.{◌∙◌, sym, true≢false}
use Rattle.proto_names.proofs.index.NameIndex.decision.Goals as goal

pub returns-else-may_decide : goal.returns-else-may_decide
returns-else-may_decide c decides =
    let told = c.may_decide.ensures (sees c.args.links.now c.args.file) decides in
    true≢false (sym told ∙ c.if-may_decide.false)
