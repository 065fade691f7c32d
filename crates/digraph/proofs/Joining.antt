-- Rows of bits that are joined, and what they say of ways.
use Rattle.digraph.proofs.Common.{common_steps, ◌≡◌, ◌∙◌, refl, sym, subst, ℕ, ◌+◌, ◌<◌, ◌≤◌, ◌⊎◌, List, length, get_or, inl, inr, arith, Contains, ◌↔◌, cases_lt, Contains-get_or, Graph, Edge, IsFalling, successors, Leads, here, through, node_at}
use Rattle.bit_matrix.specs.Bits.{Bits, has}
use Rattle.bit_matrix.specs.Changes.{Has, HasInserted, HasJoined, IsAsLarge, IsLonger, columns_of}
use Rattle.digraph.proofs.Rows.{joined_both, joined_fresh, joined_two}
use Rattle.digraph.specs.ReachRows.{HasRowPushed, HasRowsJoined, InRows, LeadsToLabel}

-- ---- bits that are as they were

pub same_bit : (old new : Bits) (a k : ℕ) → has new a k ≡ has old a k → Has new a k ↔ Has old a k
same_bit old new a k same = (λ t. sym same ∙ t, λ t. same ∙ t)

same_rows : (old new : Bits) (others : List ℕ) (k : ℕ) → ((b : ℕ) → Contains others b → has new b k ≡ has old b k)
    → InRows new others k ↔ InRows old others k
same_rows old new others k same = grind (arith, common_steps)

-- ---- one row with what is set in others

-- the first n of the others are joined
pub record Joining (old : Bits) (row : ℕ) (others : List ℕ) (n : ℕ) (new : Bits) : Type 0 where
  pub large : IsAsLarge old new
  pub kept : (a k : ℕ) → a < old.rows → k < columns_of old → (a ≡ row → ⊥) → has new a k ≡ has old a k
  pub bits : (k : ℕ) → k < columns_of old
      → Has new row k ↔ (Has old row k ⊎ ((i : ℕ) × (i < n) × Has old (get_or others i 0) k))

module _ (old : Bits) (row : ℕ) (others : List ℕ) (n : ℕ) (now new : Bits) (h : n < length others)
    (hrow : row < old.rows)
    (below : (b : ℕ) → Contains others b → b < row) (is : Joining old row others n now)
    (joined : HasJoined now row (get_or others n 0) new) where
  other_same : (k : ℕ) → k < columns_of old → has now (get_or others n 0) k ≡ has old (get_or others n 0) k
  other_same k hk = let less = below _ (Contains-get_or others n 0 h) in grind arith

  more : (k : ℕ) → k < columns_of old
      → Has new row k ↔ (Has old row k ⊎ ((i : ℕ) × (i < n + 1) × Has old (get_or others i 0) k))
  more k hk = grind (arith, other_same)

  pub joining_more : Joining old row others (n + 1) new
  joining_more = grind (arith, more)

-- ---- one more row

module _ (old pushed set new : Bits) (label : ℕ) (others : List ℕ) (hlabel : label < columns_of old)
    (below : (b : ℕ) → Contains others b → b < old.rows)
    (longer : IsLonger old pushed) (inserted : HasInserted pushed old.rows label set)
    (joined : HasRowsJoined set old.rows others new) where
  set_same : (a k : ℕ) → a < old.rows → k < columns_of old → has set a k ≡ has old a k
  set_same a k ha hk = grind arith

  new_bits : (k : ℕ) → k < columns_of old → Has new old.rows k ↔ ((label ≡ k) ⊎ InRows old others k)
  new_bits k hk = joined_fresh (joined.bits k (omega arith)) (inserted.bits k (omega arith))
      (longer.clear k hk) (same_rows old set others k (λ b inside. set_same b k (below b inside) hk))

  pub row_pushed : HasRowPushed old label others new
  row_pushed = grind (arith, new_bits, set_same)

-- ---- what each node leads to

pub record Reaching (g : Graph) (labels : List ℕ) (n : ℕ) (bits : Bits) : Type 0 where
  pub rows : bits.rows ≡ n
  pub columns : length labels ≤ columns_of bits
  pub members : (a k : ℕ) → a < n → k < columns_of bits → Has bits a k ↔ LeadsToLabel g labels a k

module _ (g : Graph) (labels : List ℕ) (n : ℕ) (old new : Bits) (falls : IsFalling g) (is : Reaching g labels n old)
    (pushed : HasRowPushed old (node_at labels n) (successors g n) new) where
  label_from : (k : ℕ) → k < columns_of new → (c : ℕ) → node_at labels c ≡ k → (a : ℕ) → a ≡ n → Leads (Edge g) c a
      → (node_at labels n ≡ k) ⊎ InRows old (successors g n) k
  label_from k hk c label _ same here = inl (subst (λ x. node_at labels x ≡ k) same label)
  label_from k hk c label _ same (through a b edge way) =
      let at = subst (λ x. Edge g x b) same edge in
      inr (b, at, (is.members b k (falls n b at) (omega arith)).1 (c, way, label))

  own : (k : ℕ) → k < columns_of new → Has new n k ↔ LeadsToLabel g labels n k
  own k hk = joined_two (rw is.rows at (pushed.bits k (omega arith))) (
    λ w. elim w [
      | inl first ↦ (n, here, first)
      | inr (b, edge, v) ↦
          let (c, way, label) = (is.members b k (falls n b edge) (omega arith)).0 v in
          (c, through n b edge way, label)
    ],
    λ (c, way, label). label_from k hk c label n refl way,
  )

  member : (a k : ℕ) → a < n + 1 → k < columns_of new → Has new a k ↔ LeadsToLabel g labels a k
  member a k ha hk = elim (cases_lt a n) [
    | inl before ↦
        joined_two (same_bit old new a k (pushed.kept a k (rw is.rows before) (omega arith)))
        (is.members a k before (omega arith))
    | inr last ↦ (let at : a ≡ n = omega arith in rw at (own k hk))
  ]

  pub reaching_more : Reaching g labels (n + 1) new
  reaching_more = grind (arith, member)

-- ---- each row with those of its successors

-- the rows from n on are joined
pub record Succeeding (g : Graph) (old : Bits) (n : ℕ) (new : Bits) : Type 0 where
  pub large : IsAsLarge old new
  pub before : (a k : ℕ) → a < n → a < old.rows → k < columns_of old → has new a k ≡ has old a k
  pub members : (a k : ℕ) → n ≤ a → a < old.rows → k < columns_of old
      → Has new a k ↔ (Has old a k ⊎ ((b : ℕ) × Edge g a b × Has old b k))

module _ (g : Graph) (old : Bits) (n : ℕ) (now new : Bits) (falls : IsFalling g) (h : n < old.rows)
    (is : Succeeding g old (n + 1) now)
    (joined : HasRowsJoined now n (successors g n) new) where
  first : (k : ℕ) → k < columns_of old → Has new n k ↔ (Has old n k ⊎ ((b : ℕ) × Edge g n b × Has old b k))
  first k hk = joined_both (joined.bits k (omega arith)) (same_bit old now n k (is.before n k (omega arith) h hk))
      (same_rows old now (successors g n) k (λ b edge. (let less = falls n b edge in
      is.before b k (omega arith) (omega arith) hk)))

  rest : (a k : ℕ) → (a ≡ n → ⊥) → a < old.rows → k < columns_of old → has new a k ≡ has now a k
  rest a k other ha hk = grind arith

  succeeding_member : (a k : ℕ) → n ≤ a → a < old.rows → k < columns_of old
      → Has new a k ↔ (Has old a k ⊎ ((b : ℕ) × Edge g a b × Has old b k))
  succeeding_member a k from ha hk = grind (arith, first, rest, same_bit)

  pub succeeding_more : Succeeding g old n new
  succeeding_more = grind (arith, rest, succeeding_member)
