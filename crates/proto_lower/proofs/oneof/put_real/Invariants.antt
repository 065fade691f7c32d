use Rattle.proto_lower.proofs.Common.{◌≡◌, ◌++◌, take, real_oneofs}
use Rattle.proto_lower.proofs.oneof.put_real.Given as goal

abbrev pub invariant-loop-item : goal.invariant-loop-item
invariant-loop-item l = l.out.items ≡ l.initial.out.items ++ real_oneofs (take l.item-index l.items)
