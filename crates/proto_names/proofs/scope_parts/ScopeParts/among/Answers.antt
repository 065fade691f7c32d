use Rattle.proto_names.proofs.Common.{◌≡◌, arith, take, take_all}
use Rattle.proto_names.proofs.Parting.{parts_joined}
use Rattle.proto_names.proofs.scope_parts.ScopeParts.among.Goals as goal

pub loop-table-preserved : goal.loop-table-preserved
loop-table-preserved c =
    let put = c.put_scopes.ensures in
    let so_far = c.loop-table.invariant in (
      rw put.large.rows so_far.0,
      rw put.large.width so_far.1,
      parts_joined c.args.tables.now c.loop-table.table-index c.table-item.result c.slots_for-slots.result _ _
          c.loop-table-test.true c.table-item.is put.kept (rw c.names.ensures at put.told) so_far.2,
    )

pub returns : goal.returns
returns c =
    let tables = c.args.tables.now in
    let whole : take c.loop-table.table-index tables ≡ tables = take_all c.loop-table.table-index tables
    (omega (arith, c.loop-table-test.false)) in
    rw whole at c.loop-table.invariant.2
