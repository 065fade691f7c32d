use Rattle.reflect_core.proofs.Common.{map, take, All, AllZip, count_of, IsAsked, root, IsRootWithin, asked_of, bytes_of}
use Rattle.reflect_core.proofs.asked.asked_in.Given as goal

abbrev pub invariant-loop-message : goal.invariant-loop-message
invariant-loop-message l = record {
  asked : AllZip (IsAsked l.compiled) (map bytes_of (take l.message-index l.messages)) (map asked_of l.asked.items);
  within : All (λ a. IsRootWithin (count_of l.compiled.links) (root (asked_of a))) l.asked.items;
}
