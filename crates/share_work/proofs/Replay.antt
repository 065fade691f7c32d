-- The calls at a word have an order in which each found the least number posted before it.
use Rattle.share_work.proofs.Common.{◌≡◌, ℕ, zero, suc, ◌<◌, ◌≤◌, ◌⊎◌, inl, inr, ⊎_elim, Bool, ◌==◌, List, [], ◌∷◌, length, get_or, take, filter, arith, min, AllPairs, Contains, IsPermutation, eqb-true, eq-eqb, Call, NONE, least_at, posts_of, IsLegalAt}
use Rattle.std.proofs.lemmas.List.Kept.{AllPairs-filter}
use Rattle.std.proofs.lemmas.List.Sorted.{Contains-permutation, IsPermutation-refl, IsPermutation-sym, IsPermutation-trans, IsPermutation-cons, IsPermutation-middle}
use Rattle.share_work.specs.Order.{MayFollow, IsOrderAt, EachFindsLeast, CallsReplay}
use Rattle.share_work.proofs.Sums.{none_in, front, behind, front_or_behind, pairs_cons, pairs_first, of_filter, in_filter}
use Rattle.share_work.proofs.Legal.{Apart, FellTo, least_here, least_at-le-NONE}

pairs_rest : {A : Type 0} (R : A → A → Type 0) (x : A) (xs : List A) → AllPairs R (x ∷ xs) → AllPairs R xs
pairs_rest R x xs pairs i j d a b = pairs (suc i) (suc j) d (omega arith) (omega arith)

-- ---- in such an order each call found the least

-- what each call found is m, or some call fell to it
abbrev LinkedFrom : ℕ → ℕ → List Call → Type 0
LinkedFrom w m ys = (c : Call) → Contains ys c → (c.found ≡ m) ⊎ FellTo w ys c.found

module _ (w m : ℕ) (c : Call) (cs : List Call) (pairs : AllPairs MayFollow (c ∷ cs))
    (linked : LinkedFrom w m (c ∷ cs)) where
  -- the first call found m
  first_finds : c.found ≡ m
  first_finds = ⊎_elim (λ e. e) (λ (f : FellTo w (c ∷ cs) c.found). let far : f.0.found ≤ c.found =
      grind (arith, front_or_behind c cs f.0 f.1, pairs_first MayFollow c cs pairs f.0) in
      absurd (omega (arith, f.2.1, f.3))) (linked c (front c cs))

  next_linked : LinkedFrom w (min m c.number) cs
  next_linked d h = grind (
    arith,
    first_finds,
    linked d (behind c cs d h),
    pairs_first MayFollow c cs pairs d h,
    front_or_behind,
  )

each_finds : (w m : ℕ) (ys : List Call) → m ≤ NONE → ((c : Call) → Contains ys c → c.word ≡ w) → AllPairs MayFollow ys
    → LinkedFrom w m ys → (i : ℕ) (d : Call) → i < length ys
    → (get_or ys i d).found ≡ min m (least_at w (posts_of (take i ys)))
each_finds w m [] top at pairs linked i d h = absurd (omega arith)
each_finds w m (c ∷ cs) top at pairs linked zero d h = omega (arith, first_finds w m c cs pairs linked)
each_finds w m (c ∷ cs) top at pairs linked (suc i) d h =
    let ih = each_finds w (min m c.number) cs (omega arith) (λ e k. at e (behind c cs e k))
    (pairs_rest MayFollow c cs pairs) (next_linked w m c cs pairs linked) i d (omega arith) in
    omega (arith, ih, least_here w (c.word, c.number) (posts_of (take i cs)) (at c (front c cs)))

replays : (w : ℕ) (calls : List Call) → IsLegalAt w calls → (ys : List Call) → IsOrderAt w calls ys
    → EachFindsLeast w ys
replays w calls l ys o =
    let at_w : Call → Bool = λ c. c.word == w in let zs : List Call = filter at_w calls in
    let was = λ (c : Call) (h : Contains ys c).
    of_filter at_w calls c (Contains-permutation ys zs c (IsPermutation-sym zs ys o.same) h) in
    let at : (c : Call) → Contains ys c → c.word ≡ w = λ c h. eqb-true c.word w (was c h).1 in
    let linked : LinkedFrom w NONE ys = λ c h. elim (l.linked c (was c h).0 (at c h)) [
      | inl a ↦ inl a
      | inr b ↦ let kept = in_filter at_w calls b.0 b.1 (eq-eqb b.0.word w b.2.0) in
          inr (b.0, Contains-permutation zs ys b.0 o.same kept, b.2, b.3)
    ] in
    λ i d h. let found = each_finds w NONE ys (omega arith) at o.falling_last linked i d h in
    omega (arith, found, least_at-le-NONE w (posts_of (take i ys)))

-- ---- there is such an order

-- the list in an order
abbrev Ordered : List Call → Type 0
Ordered xs = (ys : List Call) × IsPermutation xs ys × AllPairs MayFollow ys

placed : (c : Call) (ys : List Call) → ((d : Call) → Contains ys d → MayFollow c d ⊎ MayFollow d c)
    → AllPairs MayFollow ys → Ordered (c ∷ ys)
placed c [] f pairs =
    (c ∷ [], IsPermutation-refl (c ∷ []), pairs_cons MayFollow c [] (λ d h. absurd (none_in d h)) pairs)
placed c (d ∷ ds) f pairs = elim (f d (front d ds)) [
  | inl a ↦
      let all = pairs_cons MayFollow c (d ∷ ds)
      (λ e h. grind (arith, a, front_or_behind d ds e h, pairs_first MayFollow d ds pairs e)) pairs in
      (c ∷ d ∷ ds, IsPermutation-refl (c ∷ d ∷ ds), all)
  | inr b ↦
      let r = placed c ds (λ e h. f e (behind d ds e h)) (pairs_rest MayFollow d ds pairs) in
      let moved = IsPermutation-trans (c ∷ d ∷ ds) (d ∷ c ∷ ds) (d ∷ r.0) (IsPermutation-middle (c ∷ []) d ds)
      (IsPermutation-cons d (c ∷ ds) r.0 r.1) in
      let back = IsPermutation-sym (c ∷ ds) r.0 r.1 in
      let all = pairs_cons MayFollow d r.0
      (λ e h. let was = front_or_behind c ds e (Contains-permutation r.0 (c ∷ ds) e back h) in
      grind (arith, b, was, pairs_first MayFollow d ds pairs e)) r.2 in
      (d ∷ r.0, moved, all)
]

ordered : (w : ℕ) (zs : List Call) → ((c : Call) → Contains zs c → c.word ≡ w) → AllPairs (Apart w) zs → Ordered zs
ordered w [] at apart = ([], IsPermutation-refl [], λ i j d a b. absurd (omega arith))
ordered w (c ∷ cs) at apart =
    let r = ordered w cs (λ d h. at d (behind c cs d h)) (pairs_rest (Apart w) c cs apart) in
    let s = placed c r.0 (λ d h. let k = Contains-permutation r.0 cs d (IsPermutation-sym cs r.0 r.1) h in
    grind (arith, at c (front c cs), at d (behind c cs d k), pairs_first (Apart w) c cs apart d k)) r.2 in
    (s.0, IsPermutation-trans (c ∷ cs) (c ∷ r.0) s.0 (IsPermutation-cons c cs r.0 r.1) s.1, s.2)

pub calls_replay : CallsReplay
calls_replay w calls l =
    let at_w : Call → Bool = λ c. c.word == w in
    let o = ordered w (filter at_w calls) (λ c h. eqb-true c.word w (of_filter at_w calls c h).1)
    (AllPairs-filter (Apart w) at_w calls l.once) in
    ((o.0, record { same = o.1; falling_last = o.2 }), replays w calls l)
