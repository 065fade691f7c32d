use Rattle.digraph.proofs.Common.{ℕ, ◌<◌, length, get_or, Contains, IsMarked, Among}
use Rattle.digraph.proofs.marks.clear.Given as goal

abbrev pub invariant-loop-node : goal.invariant-loop-node
invariant-loop-node l = record {
  room : (k : ℕ) → k < length l.nodes → get_or l.nodes k 0 < length l.marks;
  left : (c : ℕ) → IsMarked l.marks c → Contains l.nodes c × (Among l.nodes l.node-index c → ⊥);
}
