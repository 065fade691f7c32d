use Rattle.proto_checks.proofs.Common.{GainsTo, Each, PackageTooLong, file_package}
use Rattle.proto_checks.proofs.package.put_long_packages.Given as goal

abbrev pub invariant-loop-statement : goal.invariant-loop-statement
invariant-loop-statement l = GainsTo l.statements (λ s. Each (file_package s) (PackageTooLong l.limits))
    l.statement-index l.initial.faults.items l.faults.items
