use Rattle.proto_lower.proofs.Common.{◌≡◌, ◌≤◌, take, real_count}
use Rattle.proto_lower.proofs.field.real_count.Given as goal

abbrev pub invariant-loop-item : goal.invariant-loop-item
invariant-loop-item l = record {
  sum : l.count ≡ real_count (take l.item-index l.items);
  most : l.count ≤ l.item-index;
}
