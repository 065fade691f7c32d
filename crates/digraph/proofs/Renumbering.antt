-- Laws of positions in an order.
use Rattle.digraph.proofs.Common.{◌≡◌, ◌≢◌, ◌∙◌, sym, ℕ, ◌+◌, ◌<◌, List, length, map, get_or, ap, arith, inl, inr, get_or-set_same, get_or-set_other, Contains, ◌↔◌, set, length-set, cases_lt, cases_order, get_or-map, length-map, Contains-get_or, Graph, Edge, IsFalling, IsBefore, IsRanked, IsRankOrder, node_at, IsRenumbered}
use Rattle.digraph.proofs.Rows.{edge_below, far}

-- ---- an order by rank

pub before_trans : (ranks : List ℕ) (a b c : ℕ) → IsBefore ranks a b → IsBefore ranks b c → IsBefore ranks a c
before_trans ranks a b c w v = grind arith

pub before_far : (ranks order : List ℕ) → IsRankOrder ranks order → (i j : ℕ) → i < j → j < length order
    → IsBefore ranks (node_at order i) (node_at order j)
before_far ranks order o = far (IsBefore ranks) (before_trans ranks) order 0 o.rises

pub before_differs : (ranks : List ℕ) (a b : ℕ) → IsBefore ranks a b → a ≢ b
before_differs ranks a b w e = grind arith

-- ---- positions

pub record Placed (order : List ℕ) (n : ℕ) (positions : List ℕ) : Type 0 where
  pub size : length positions ≡ length order
  pub placed : (k : ℕ) → k < n → get_or positions (node_at order k) 0 ≡ k

pub inside_order : (ranks order : List ℕ) → IsRankOrder ranks order → (k : ℕ) → k < length order
    → node_at order k < length order
inside_order ranks order o k h = omega (arith, (o.whole (node_at order k)).0 (Contains-get_or order k 0 h), o.size)

pub placed_more : (ranks order : List ℕ) (n : ℕ) (positions : List ℕ) → IsRankOrder ranks order → n < length order
    → Placed order n positions → Placed order (n + 1) (set positions (node_at order n) n)
placed_more ranks order n positions o h p = record {
  size = rw length-set p.size;
  placed = λ k below. elim (cases_lt k n) [
    | inl less ↦ get_or-set_other positions (node_at order n) (node_at order k) n 0
        (before_differs ranks _ _ (before_far ranks order o k n less h)) ∙ p.placed k less
    | inr over ↦ (let at : k ≡ n = omega arith in
        rw at (get_or-set_same positions (node_at order n) n 0 (omega (arith, inside_order ranks order o n h, p.size))))
  ];
}

-- ---- rows of positions

pub map_members : (f : ℕ → ℕ) (xs : List ℕ) (j : ℕ) → Contains (map f xs) j ↔ ((b : ℕ) × Contains xs b × (f b ≡ j))
map_members f xs j = (
  λ (k, h, e). (let inside : k < length xs = rw length-map at h in
      (get_or xs k 0, Contains-get_or xs k 0 inside, sym (get_or-map f xs k 0 j inside) ∙ e)),
  λ (b, (k, h, is), e). (k, rw length-map h, get_or-map f xs k b j h ∙ ap f is ∙ e),
)

-- ---- what is renumbered

-- where edges go to smaller ranks, they fall between positions
pub renumbered_falls : (g h : Graph) (ranks order : List ℕ) (rows : Graph) → IsRanked g ranks → IsRankOrder ranks order
    → ((a b : ℕ) → Edge h a b → Edge g a b) → IsRenumbered h order rows → IsFalling rows
renumbered_falls g h ranks order rows ranked o sub r k j edge =
    let below = edge_below rows k j edge in
    let hj = r.within k j edge in
    let less = ranked.above (node_at order k) (node_at order j)
    (sub (node_at order k) (node_at order j) ((r.edges k j (omega (arith, r.size)) hj).0 edge)) in
    let far = before_far ranks order o k j in
    grind (arith, cases_order k j)
