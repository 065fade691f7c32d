use Rattle.digraph.proofs.Common.{ℕ, [], ◌<◌, ◌≤◌, length, get_or, Contains, ◌↔◌, AreMarked, Among}
use Rattle.digraph.proofs.closures.gather.Given as goal

abbrev pub invariant-loop-node : goal.invariant-loop-node
invariant-loop-node l = record {
  room : length l.lists ≤ length l.marks;
  inside : (k : ℕ) → k < length l.nodes → get_or l.nodes k 0 < length l.lists;
  are : AreMarked l.marks l.marked.items;
  gathered : (c : ℕ) → Contains l.marked.items c
      ↔ ((b : ℕ) × Among l.nodes l.node-index b × Contains (get_or l.lists b []) c);
}
