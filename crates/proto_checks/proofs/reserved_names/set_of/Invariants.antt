use Rattle.std.proofs.Common.{take}
use Rattle.proto_checks.specs.NameSets.{HoldsJust}
use Rattle.proto_checks.proofs.reserved_names.set_of.Given as goal

abbrev pub invariant-loop-name : goal.invariant-loop-name
invariant-loop-name l = HoldsJust (take l.name-index l.names) l.set
