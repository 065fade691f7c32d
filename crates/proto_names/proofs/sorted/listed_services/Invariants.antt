use Rattle.proto_names.proofs.Common.{◌≡◌, map, take, string_bytes, services_of}
use Rattle.proto_names.proofs.sorted.listed_services.Given as goal

abbrev pub invariant-loop-position : goal.invariant-loop-position
invariant-loop-position l = map string_bytes l.services.items ≡ services_of (take l.position l.names)
