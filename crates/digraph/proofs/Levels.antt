-- What the rounds keep that find the ranks.
use Rattle.digraph.proofs.Common.{rules, ◌≡◌, sym, ℕ, zero, suc, ◌<◌, List, [], ◌∷◌, length, get_or, ap, refl, arith, ne_eqb, eqb, ◌+◌, ◌++◌, inl, inr, ◌⊎◌, Bool, Contains, ◌↔◌, set, length-set, ◌∙◌, ◌≤◌, length-append, replicate, All, IsDistinct, All-nil, All-cons, All-contains, recursion_from_All, Contains-get_or, IsDistinct-cons, Graph, Edge, successors, IsWithin, Leads, here, HasNoCycle, common_steps, IsStrictlyIncreasing, cases_eq, IsMarked, Among, rank_in, IsBefore, IsRanked, IsRankOrder, IsPassed, ArePassed, Stops, AllMarked, GoesInto}
use Rattle.digraph.proofs.Rows.{few, many, once, leads_last, IsDistinct_none, among_more, push_iff, append_iff, distinct_push, steps_append, joined_step, joined_end, where_more, where_skip, joined_more, edge_below}
use Rattle.std.proofs.lemmas.Map.Made.{Contains-tail}
use Rattle.digraph.proofs.Renumbering.{before_trans, before_differs}

-- ---- nodes that have edges among themselves lie on a cycle

-- x is below n and leads over an edge to the head
abbrev LeadsOn : Graph → ℕ → ℕ → ℕ → Type 0
LeadsOn g n head x = (x < n) × (y : ℕ) × Edge g x y × Leads (Edge g) head y

-- distinct numbers that all lead over an edge to the head
record Path (g : Graph) (n head : ℕ) (xs : List ℕ) : Type 0 where
  each : All (LeadsOn g n head) xs
  distinct : IsDistinct eqb xs

-- each of which R holds is below n and has an edge to another
module _ (g : Graph) (n : ℕ) (R : ℕ → Type 0) (stuck : (a : ℕ) → R a → (a < n) × (b : ℕ) × Edge g a b × R b)
    (acyclic : HasNoCycle g) where
  longer : (head b : ℕ) (xs : List ℕ) → Edge g head b → head < n → Path g n head xs → Path g n b (head ∷ xs)
  longer head b xs edge under path = record {
    each = All-cons (LeadsOn g n b) head xs (under, b, edge, here)
        (λ k d h. (let w = path.each k d h in (w.0, w.1, w.2, leads_last (Edge g) head b w.1 w.3 edge)));
    distinct = IsDistinct-cons eqb head xs (recursion_from_All _ xs (λ k d h. ne_eqb head (get_or xs k d)
        (λ e. (let (low, y, first, way) = path.each k d h in acyclic head y (rw e first) way)))) path.distinct;
  }

  walk : (a : ℕ) → R a → (k : ℕ) → (head : ℕ) × (xs : List ℕ) × R head × Path g n head xs × (length xs ≡ k)
  walk a ra zero = (a, [], ra, record { each = All-nil _; distinct = IsDistinct_none }, refl)
  walk a ra (suc k) =
      let (head, xs, r, path, long) = walk a ra k in
      let (under, b, edge, rb) = stuck head r in (b, head ∷ xs, rb, longer head b xs edge under path, ap suc long)

  -- so where there is no cycle, there is none of them
  none_stuck : (a : ℕ) → R a → ⊥
  none_stuck a ra =
      let (head, xs, r, path, long) = walk a ra (suc n) in
      let small = few xs n path.distinct (λ q w. (All-contains (LeadsOn g n head) xs q path.each w).0) in
      omega arith

-- ---- one row

-- a row that is not passed whole
pub stopped : (g : Graph) (marks : List Bool) (a n : ℕ) → (n ≡ length (successors g a) → ⊥)
    → Stops marks (successors g a) n → AllMarked g marks a → ⊥
stopped g marks a n part stops all = grind (arith, Contains-get_or)

pub mark_cases : (marks : List Bool) (a : ℕ) → IsMarked marks a ⊎ (IsMarked marks a → ⊥)
mark_cases marks a = grind arith

-- all of them are marked, or one is not
all_cases : (marks : List Bool) (xs : List ℕ)
    → ((c : ℕ) → Contains xs c → IsMarked marks c) ⊎ ((c : ℕ) × Contains xs c × (IsMarked marks c → ⊥))
all_cases marks [] = inl (λ c w. absurd (omega (arith, w.1)))
all_cases marks (x ∷ xs) = elim (mark_cases marks x) [
  | inl mark ↦ elim (all_cases marks xs) [
    | inl all ↦ inl (λ c w. elim (cases_eq x c) [
      | inl is ↦ rw is at mark
      | inr other ↦ all c (Contains-tail x xs c other w)
    ])
    | inr (c, w, out) ↦ inr (c, (suc w.0, omega (arith, w.1), w.2), out)
  ]
  | inr out ↦ inr (x, (0, omega arith, refl), out)
]

-- ---- what is passed

pub passed_none : (g : Graph) (marks : List Bool) (passed : List ℕ) (n : ℕ) → length passed ≡ length g
    → passed ≡ replicate n 0 → ArePassed g marks passed
passed_none g marks passed n size e =
    let zeros : (a : ℕ) → get_or passed a 0 ≡ 0 = λ a. rw e (grind (arith, common_steps)) in grind arith

pub passed_set : (g : Graph) (marks : List Bool) (passed : List ℕ) (p n : ℕ) → p < length passed
    → IsPassed marks (successors g p) n → ArePassed g marks passed → ArePassed g marks (set passed p n)
passed_set g marks passed p n h row old = grind (arith, common_steps)

-- ---- the nodes that are ready among some

pub record Appending (g : Graph) (marks : List Bool) (nodes old : List ℕ) (n : ℕ) (passed ready : List ℕ) : Type 0 where
  pub room : (k : ℕ) → k < length nodes → get_or nodes k 0 < length passed
  pub are : ArePassed g marks passed
  pub added : (a : ℕ) → Contains ready a ↔ (Contains old a ⊎ (Among nodes n a × AllMarked g marks a))

pub appending_more : (g : Graph) (marks : List Bool) (nodes old : List ℕ) (n k : ℕ) (passed ready ys : List ℕ)
    → n < length nodes → IsPassed marks (successors g (get_or nodes n 0)) k
    → (AllMarked g marks (get_or nodes n 0) × (ys ≡ ready ++ get_or nodes n 0 ∷ []))
    ⊎ ((AllMarked g marks (get_or nodes n 0) → ⊥) × (ys ≡ ready)) → Appending g marks nodes old n passed ready
    → Appending g marks nodes old (n + 1) (set passed (get_or nodes n 0) k) ys
appending_more g marks nodes old n k passed ready ys h row which v =
    let p = get_or nodes n 0 in
    record {
      room = λ j inside. rw length-set (v.room j inside);
      are = passed_set g marks passed p k (v.room n h) row v.are;
      added = λ a. elim which [
        | inl (all, is) ↦ rw is (joined_step (push_iff ready p a) (v.added a)
            (where_more (AllMarked g marks) p a (among_more nodes n a) all))
        | inr (part, is) ↦ rw is (joined_end (v.added a)
            (where_skip (AllMarked g marks) p a (among_more nodes n a) part))
      ];
    }

-- what the loop over the rounds has
pub record Stage : Type 0 where
  pub marks : List Bool
  pub ranks : List ℕ
  pub order : List ℕ
  pub ready : List ℕ
  pub passed : List ℕ
  pub round : ℕ

-- a node that gets a rank next
abbrev pub IsReady : Graph → List Bool → ℕ → Type 0
IsReady g marks a = (a < length g) × (IsMarked marks a → ⊥) × AllMarked g marks a

-- n is 0, or one more than the rank of a node that a has an edge to
abbrev pub IsOneMore : Graph → List ℕ → ℕ → ℕ → Type 0
IsOneMore g ranks a n = (n ≡ 0) ⊎ ((b : ℕ) × Edge g a b × (n ≡ rank_in ranks b + 1))

pub record Levels (g : Graph) (s : Stage) : Type 0 where
  pub room : length s.marks ≡ length g
  pub size : length s.ranks ≡ length g
  pub known : (a : ℕ) → IsMarked s.marks a ↔ Contains s.order a
  pub rises : IsStrictlyIncreasing s.ready
  pub ready : (a : ℕ) → Contains s.ready a ↔ IsReady g s.marks a
  pub passed : ArePassed g s.marks s.passed
  pub few : s.round ≤ length s.order
  pub above : (a b : ℕ) → IsMarked s.marks a → Edge g a b → IsMarked s.marks b × (rank_in s.ranks b < rank_in s.ranks a)
  pub least : (a : ℕ) → IsMarked s.marks a → IsOneMore g s.ranks a (rank_in s.ranks a)
  pub below : (a : ℕ) → IsMarked s.marks a → rank_in s.ranks a < s.round
  pub late : (a : ℕ) → Contains s.ready a → IsOneMore g s.ranks a s.round
  pub ordered : (k : ℕ) → k + 1 < length s.order → IsBefore s.ranks (get_or s.order k 0) (get_or s.order (k + 1) 0)

-- ---- before the first round

pub empty_from : (xs : List ℕ) → ((c : ℕ) → Contains xs c → ⊥) → xs ≡ []
empty_from [] none = refl
empty_from (x ∷ xs) none = absurd (none x (0, omega arith, refl))

-- ---- a round

-- what a round writes, from s to t
pub record Round (g : Graph) (s t : Stage) : Type 0 where
  pub next : t.round ≡ s.round + 1
  pub some : 0 < length s.ready
  pub appended : t.order ≡ s.order ++ s.ready
  pub marks_size : length t.marks ≡ length s.marks
  pub ranks_size : length t.ranks ≡ length s.ranks
  pub marked : (c : ℕ) → IsMarked t.marks c ↔ (IsMarked s.marks c ⊎ Contains s.ready c)
  pub ranked : (c : ℕ) → Contains s.ready c → rank_in t.ranks c ≡ s.round
  pub others : (c : ℕ) → (Contains s.ready c → ⊥) → rank_in t.ranks c ≡ rank_in s.ranks c
  pub passed : ArePassed g t.marks t.passed
  pub rises : IsStrictlyIncreasing t.ready
  pub members : (a : ℕ) → Contains t.ready a ↔ (GoesInto g s.ready a × AllMarked g t.marks a)

module _ (g : Graph) (s t : Stage) (l : Levels g s) (r : Round g s t) where
  kept : (a : ℕ) → IsMarked s.marks a → rank_in t.ranks a ≡ rank_in s.ranks a
  kept a m = r.others a (λ w. ((l.ready a).0 w).1 m)

  above_next : (a b : ℕ) → IsMarked s.marks a ⊎ Contains s.ready a → Edge g a b
      → IsMarked t.marks b × (rank_in t.ranks b < rank_in t.ranks a)
  above_next a b (inl m) edge =
      let was = l.above a b m edge in ((r.marked b).1 (inl was.0), omega (arith, kept a m, kept b was.0))
  above_next a b (inr w) edge =
      let m = ((l.ready a).0 w).2 b edge in
      ((r.marked b).1 (inl m), omega (arith, l.below b m, kept b m, r.ranked a w))

  more_next : (a n : ℕ) → rank_in t.ranks a ≡ n → ((b : ℕ) → Edge g a b → IsMarked s.marks b) → IsOneMore g s.ranks a n
      → IsOneMore g t.ranks a (rank_in t.ranks a)
  more_next a n e marked (inl none) = inl (e ∙ none)
  more_next a n e marked (inr (b, edge, is)) = inr (b, edge, omega (arith, kept b (marked b edge)))

  least_next : (a : ℕ) → IsMarked s.marks a ⊎ Contains s.ready a → IsOneMore g t.ranks a (rank_in t.ranks a)
  least_next a (inl m) = more_next a _ (kept a m) (λ b edge. (l.above a b m edge).0) (l.least a m)
  least_next a (inr w) = more_next a _ (r.ranked a w) ((l.ready a).0 w).2 (l.late a w)

  below_next : (a : ℕ) → IsMarked s.marks a ⊎ Contains s.ready a → rank_in t.ranks a < t.round
  below_next a w = grind arith

  late_next : (a : ℕ) → Contains t.ready a → IsOneMore g t.ranks a t.round
  late_next a w = let (b, ready, edge) = ((r.members a).0 w).0 in inr (b, edge, omega (arith, r.ranked b ready))

  -- a node with an edge to one that was ready had no rank, and was not ready itself
  ready_to : (a : ℕ) → Contains t.ready a → IsReady g t.marks a
  ready_to a w =
      let ((b, into, edge), all) = (r.members a).0 w in
      let out : IsMarked s.marks b → ⊥ = ((l.ready b).0 into).1 in (
        edge_below g a b edge,
        λ m. out (elim ((r.marked a).0 m) [
          | inl old ↦ (l.above a b old edge).0
          | inr ready ↦ ((l.ready a).0 ready).2 b edge
        ]),
        all,
      )

  -- a node that is ready now and was not before has an edge to one that was
  ready_from : (a : ℕ) → IsReady g t.marks a → Contains t.ready a
  ready_from a (h, out, all) = elim (all_cases s.marks (successors g a)) [
    | inl before ↦ absurd (out ((r.marked a).1 (inr ((l.ready a).1 (h, (λ m. out ((r.marked a).1 (inl m))), before)))))
    | inr found ↦ elim ((r.marked found.0).0 (all found.0 found.1)) [
      | inl old ↦ absurd (found.2 old)
      | inr ready ↦ (r.members a).1 ((found.0, ready, found.1), all)
    ]
  ]

  ordered_kept : (k : ℕ) → k + 1 < length s.order → IsBefore t.ranks (get_or s.order k 0) (get_or s.order (k + 1) 0)
  ordered_kept k h = search (rules, Contains-get_or, kept)

  ready_rank : (k : ℕ) → k < length s.ready → rank_in t.ranks (get_or s.ready k 0) ≡ s.round
  ready_rank k h = r.ranked (get_or s.ready k 0) (Contains-get_or s.ready k 0 h)

  pub levels_next : Levels g t
  levels_next = record {
    room = r.marks_size ∙ l.room;
    size = r.ranks_size ∙ l.size;
    known = λ a. joined_more (r.marked a) (l.known a) (rw r.appended (append_iff s.order s.ready a));
    rises = r.rises;
    ready = λ a. (ready_to a, ready_from a);
    passed = r.passed;
    few = omega (arith, ap length r.appended, length-append s.order s.ready);
    above = λ a b m. above_next a b ((r.marked a).0 m);
    least = λ a m. least_next a ((r.marked a).0 m);
    below = λ a m. below_next a ((r.marked a).0 m);
    late = late_next;
    ordered = rw r.appended (steps_append (IsBefore t.ranks) s.order s.ready ordered_kept
        (λ k h. inr (ready_rank k (omega arith) ∙ sym (ready_rank (k + 1) h), l.rises k h))
        (λ a b w v. (let m = (l.known a).1 w in inl (omega (arith, kept a m, l.below a m, r.ranked b v)))));
  }

-- ---- no node stands twice in the order

module _ (g : Graph) (s : Stage) (l : Levels g s) where
  order_distinct : IsDistinct eqb s.order
  order_distinct = once (IsBefore s.ranks) (before_trans s.ranks) (λ a w. before_differs s.ranks a a w refl) _ l.ordered

  in_order : (q : ℕ) → Contains s.order q → q < length g
  in_order q w = let m = (l.known q).1 w in omega arith

  -- where a node has no mark, the order has not all of them
  pub order_shorter : (a : ℕ) → a < length g → (IsMarked s.marks a → ⊥) → length s.order < length g
  order_shorter a h out =
      let once' = distinct_push s.order a order_distinct (λ w. out ((l.known a).1 w)) in
      let short = few (s.order ++ a ∷ []) (length g) once' (λ q w. elim ((push_iff s.order a q).0 w) [
        | inl old ↦ in_order q old
        | inr is ↦ omega arith
      ]) in
      omega (arith, length-append s.order (a ∷ []))

  -- so a round that finds a node leaves fewer
  pub round_shorter : 0 < length s.ready → length s.order < length g
  round_shorter some = let is = (l.ready _).0 (Contains-get_or s.ready 0 0 some) in order_shorter _ is.0 is.1

  -- ---- after the last round

  every : length g ≤ length s.order → (a : ℕ) → a < length g → IsMarked s.marks a
  every whole a h = grind (arith, common_steps, mark_cases, order_shorter)

  pub levels_ranked : length g ≤ length s.order → IsRanked g s.ranks
  levels_ranked whole = record {
    size = l.size;
    above = λ a b edge. (l.above a b (every whole a (edge_below g a b edge)) edge).1;
    least = λ a h. l.least a (every whole a h);
  }

  pub levels_order : length g ≤ length s.order → IsRankOrder s.ranks s.order
  levels_order whole = record {
    size = omega (arith, few s.order (length g) order_distinct in_order);
    rises = l.ordered;
    whole = λ a. (
      λ w. (let h = in_order a w in omega arith),
      λ h. (l.known a).0 (every whole a (omega arith)),
    );
  }

-- a node that no round found leads into a cycle
pub levels_stuck : (g : Graph) (s : Stage) → IsWithin g (length g) → Levels g s → length s.ready ≡ 0
    → length s.order < length g → HasNoCycle g → ⊥
levels_stuck g s within l none short acyclic =
    let free = none_stuck g (length g) (λ a. (a < length g) × (IsMarked s.marks a → ⊥))
    (λ a (h, out). elim (all_cases s.marks (successors g a)) [
      | inl all ↦ (let w = (l.ready a).1 (h, out, all) in absurd (omega arith))
      | inr (b, edge, free) ↦ (h, b, edge, (within a b edge, free))
    ]) acyclic in
    let long = many s.order (length g) (λ q h. (l.known q).0 (elim (mark_cases s.marks q) [
      | inl m ↦ m
      | inr out ↦ absurd (free q (h, out))
    ])) in
    omega arith
