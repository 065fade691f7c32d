use Rattle.proto_checks.proofs.Common.{take, flat_map, file_package}
use Rattle.proto_checks.proofs.Clashes.{Repeated}
use Rattle.proto_checks.proofs.package.put_packages_twice.Given as goal

abbrev pub invariant-loop-statement : goal.invariant-loop-statement
invariant-loop-statement l = Repeated (flat_map file_package (take l.statement-index l.statements)) l.is_named
    l.initial.faults.items l.faults.items
