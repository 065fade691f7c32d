use Rattle.proto_checks.proofs.Common.{◌≡◌, take, field_numbers}
use Rattle.proto_checks.proofs.gathered.field_numbers.Given as goal

abbrev pub invariant-loop-item : goal.invariant-loop-item
invariant-loop-item l = l.numbers.items ≡ field_numbers (take l.item-index l.items)
