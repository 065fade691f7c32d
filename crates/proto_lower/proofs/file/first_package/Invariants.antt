use Rattle.proto_lower.proofs.Common.{◌≡◌, drop, flat_map, slice_get, file_package}
use Rattle.proto_lower.proofs.file.first_package.Given as goal

abbrev pub invariant-loop-statement : goal.invariant-loop-statement
invariant-loop-statement l =
    slice_get (flat_map file_package (drop l.statement-index l.statements)) 0
    ≡ slice_get (flat_map file_package l.statements) 0
