use Rattle.proto_names.proofs.Starting.{StartsTo}
use Rattle.proto_names.proofs.starts.starts_of.Given as goal

abbrev pub invariant-loop-position : goal.invariant-loop-position
invariant-loop-position l = StartsTo l.names l.count l.position l.counts.items
