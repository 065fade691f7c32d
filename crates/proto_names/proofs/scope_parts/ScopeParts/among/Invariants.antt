use Rattle.proto_names.proofs.Common.{◌≤◌, ◌<◌, ◌*◌, take, columns_of, all_of}
use Rattle.proto_names.specs.ScopeParts.{TellsParts}
use Rattle.proto_names.proofs.scope_parts.ScopeParts.among.Given as goal

abbrev pub invariant-loop-table : goal.invariant-loop-table
invariant-loop-table l =
    (0 < l.bits.rows) × (l.slots * 64 ≤ columns_of l.bits) × TellsParts (all_of (take l.table-index l.tables)) l.bits l.slots
