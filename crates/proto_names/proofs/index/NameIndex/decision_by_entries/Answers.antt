use Rattle.std.specs.List.{position}
use Rattle.proto_names.specs.Scopes.{is_dot}
use Rattle.proto_names.proofs.Common.{arith, common_steps, SeenBy}
use Rattle.proto_names.proofs.Unique.{simple_decides}
use Rattle.proto_names.proofs.index.NameIndex.decision_by_entries.Goals as goal

pub returns-in_ok-kind : goal.returns-in_ok-kind
returns-in_ok-kind c =
    let spelled = c.args.spelled.text.now in
    simple_decides c.args.self.now.occurrences (SeenBy c.args.links.now c.args.file) c.args.scope.text.now spelled
    (position is_dot spelled) c.in_ok-kind.kind (grind (arith, common_steps))
    (rw c.args.spelled.parted at c.in_ok-kind.ensures)
