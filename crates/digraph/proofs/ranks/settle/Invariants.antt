use Rattle.digraph.proofs.Common.{ℕ, ◌<◌, ◌≡◌, ◌⊎◌, ◌↔◌, length, get_or, IsMarked, Among, rank_in}
use Rattle.digraph.proofs.ranks.settle.Given as goal

abbrev pub invariant-loop-node : goal.invariant-loop-node
invariant-loop-node l = record {
  room : (k : ℕ) → k < length l.nodes → (get_or l.nodes k 0 < length l.marks) × (get_or l.nodes k 0 < length l.ranks);
  marked : (c : ℕ) → IsMarked l.marks c ↔ (IsMarked l.initial.marks c ⊎ Among l.nodes l.node-index c);
  ranked : (c : ℕ) → Among l.nodes l.node-index c → rank_in l.ranks c ≡ l.rank;
  others : (c : ℕ) → (Among l.nodes l.node-index c → ⊥) → rank_in l.ranks c ≡ rank_in l.initial.ranks c;
}
