use Rattle.proto_names.proofs.Common.{◌-◌, ◌<◌, IsRun}
use Rattle.proto_names.proofs.Repeating.{ArePut}
use Rattle.proto_names.proofs.twice.all_twice.Given as goal

abbrev pub invariant-loop-position : goal.invariant-loop-position
invariant-loop-position l = record {
  run : 0 < l.position → IsRun l.names (l.position - 1) (l.position - 1) l.run.start l.run.has_element;
  put : ArePut l.names l.position l.spots.items;
}
