use Rattle.proto_checks.proofs.Common.{◌≡◌, take, value_numbers}
use Rattle.proto_checks.proofs.gathered.value_numbers.Given as goal

abbrev pub invariant-loop-item : goal.invariant-loop-item
invariant-loop-item l = l.numbers.items ≡ value_numbers (take l.item-index l.items)
