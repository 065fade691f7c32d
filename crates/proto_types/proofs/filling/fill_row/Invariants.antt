use Rattle.proto_types.proofs.Walking.{AreFilledTo}
use Rattle.proto_types.proofs.filling.fill_row.Given as goal

abbrev pub invariant-loop-position : goal.invariant-loop-position
invariant-loop-position g l = AreFilledTo g.T.Fill.references g.T.Fill.typed l.initial.list.items l.list.items
    l.position l.initial.types.items l.types.items
