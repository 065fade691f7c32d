use Rattle.std.proofs.Common.{◌≡◌, length, take}
use Rattle.proto_sets.specs.HeadSteps.{AreFlags}
use Rattle.proto_sets.proofs.head.flags_of.Given as goal

abbrev pub invariant-loop-position : goal.invariant-loop-position
invariant-loop-position l = record {
  size : length l.flags.items ≡ l.count;
  told : AreFlags (take l.position-index l.positions) l.flags.items;
}
