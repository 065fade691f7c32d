-- Intervals in order, each ending no sooner than those before it, and the ranges that they come from.
use Rattle.proto_checks.proofs.Common.{◌≡◌, ℕ, ◌+◌, ◌-◌, ◌<◌, ◌≤◌, List, [], ◌∷◌, ◌++◌, length, get_or, take, drop, drop-cons, set, ap, refl, arith, inl, inr, ◌⊎◌, zero, suc, add-one, append_assoc, leb, Contains, ◌↔◌, max, true, false, cases_lt, nat_tests, get_or_default, take_more_set, drop-set-lt, Contains-append_left, Contains-get_or, Contains-push, Contains-push_cases, Contains-permutation, IsPermutation-sym, IsPartitionedBy-leb, StandsAt, one_at, Share, Interval, MarkedRange}
use Rattle.std.specs.List.Sorted.{IsPermutation, IsPartitionPoint, IsPartitionedBy}
use Rattle.proto_checks.specs.Covers.{interval_of, AreIntervals, RisesByStart, RisesByEnd, Reached, IsRaised, IsHeld, IsCover, IsUsed}

-- the intervals are those of the first n ranges that hold a number
abbrev pub IntervalsTo : List MarkedRange → ℕ → List Interval → Type 0
IntervalsTo rs n xs = (a : Interval)
    → Contains xs a ↔ ((i : ℕ) × (r : MarkedRange) × (i < n) × StandsAt rs i r × (r.start ≤ r.end)
    × (a ≡ interval_of r))

module _ (rs : List MarkedRange) (n : ℕ) (xs : List Interval) where
  pub intervals_push : (r : MarkedRange) → StandsAt rs n r → r.start ≤ r.end → IntervalsTo rs n xs
      → IntervalsTo rs (n + 1) (xs ++ interval_of r ∷ [])
  intervals_push r here full h a = (
    λ w. grind (arith, Contains-push_cases xs (interval_of r) a w, h a),
    λ v. grind (
      arith,
      cases_lt v.0 n,
      Contains-append_left xs (interval_of r ∷ []) a,
      Contains-push xs (interval_of r),
      h a,
      one_at rs n v.0 r v.1,
    ),
  )

  pub intervals_skip : (r : MarkedRange) → StandsAt rs n r → r.end < r.start → IntervalsTo rs n xs
      → IntervalsTo rs (n + 1) xs
  intervals_skip r here back h a =
      (λ w. grind (arith, h a), λ v. grind (arith, cases_lt v.0 n, h a, one_at rs n v.0 r v.1))

  pub intervals_all : (sorted : List Interval) → length rs ≤ n → IntervalsTo rs n xs → IsPermutation xs sorted
      → AreIntervals rs sorted
  intervals_all sorted end h p a = (
    λ w. grind (arith, h a, Contains-permutation sorted xs a (IsPermutation-sym xs sorted p) w),
    λ v. Contains-permutation xs sorted a p (grind (arith, h a)),
  )

-- each interval, ending no sooner than any up to it or than top
abbrev pub raised : ℕ → List Interval → List Interval
raised top [] = []
raised top (a ∷ rest) = record { start = a.start; end = max a.end top } ∷ raised (max a.end top) rest

pub raised_at : (top : ℕ) (rest : List Interval) (k : ℕ) (d : Interval) → k < length rest
    → raised top (drop k rest) ≡ record { start = (get_or rest k d).start; end = max (get_or rest k d).end top }
    ∷ raised (max (get_or rest k d).end top) (drop (k + 1) rest)
raised_at top rest k d h = rw (add-one, drop-cons rest k d) refl

length-raised : (top : ℕ) (rest : List Interval) → length (raised top rest) ≡ length rest
length-raised top [] = refl
length-raised top (a ∷ rest) = ap (λ n. suc n) (length-raised (max a.end top) rest)

raised_told : (top : ℕ) (rest : List Interval) (k : ℕ) (d e : Interval) → k < length rest
    → ((get_or (raised top rest) k d).start ≡ (get_or rest k e).start)
    × (top ≤ (get_or (raised top rest) k d).end) × ((get_or rest k e).end ≤ (get_or (raised top rest) k d).end)
raised_told top [] k d e h = absurd (omega arith)
raised_told top (a ∷ rest) zero d e h = grind arith
raised_told top (a ∷ rest) (suc k) d e h = grind (arith, raised_told (max a.end top) rest k d e)

raised_rises : (top : ℕ) (rest : List Interval) (i j : ℕ) (d : Interval) → i ≤ j → j < length rest
    → (get_or (raised top rest) i d).end ≤ (get_or (raised top rest) j d).end
raised_rises top [] i j d h k = absurd (omega arith)
raised_rises top (a ∷ rest) i zero d h k = grind arith
raised_rises top (a ∷ rest) i (suc j) d h k =
    grind (arith, raised_told (max a.end top) rest j d d, raised_rises (max a.end top) rest (i - 1) j d)

-- what reaches n when raised is the start's top, or an interval up to there
raised_back : (top : ℕ) (rest : List Interval) (k n : ℕ) (d e : Interval) → k < length rest
    → n ≤ (get_or (raised top rest) k d).end → (n ≤ top) ⊎ ((j : ℕ) × (j ≤ k) × (n ≤ (get_or rest j e).end))
raised_back top [] k n d e h w = absurd (omega arith)
raised_back top (a ∷ rest) zero n d e h w = grind (arith, cases_lt top n)
raised_back top (a ∷ rest) (suc k) n d e h w = elim (raised_back (max a.end top) rest k n d e (omega arith) w) [
  | inl early ↦ (elim (cases_lt top n) [ inl over ↦ inr (0, omega arith, omega arith) | inr under ↦ inl under ])
  | inr v ↦ inr (suc v.0, omega (arith, v.1), v.2)
]

reached_on : (rest : List Interval) (n m : ℕ) → Reached rest n m → Reached (raised 0 rest) n m
reached_on rest n m (a, (k, below, is), low, high) =
    grind (arith, raised_told 0 rest k a a, Contains-get_or (raised 0 rest) k a, length-raised 0 rest, is)

reached_back : (rest : List Interval) (n m : ℕ) → RisesByStart rest → Reached (raised 0 rest) n m → Reached rest n m
reached_back rest n m up (b, (k, below, is), low, high) =
    let inside : k < length rest = omega (arith, length-raised 0 rest) in
    let start = (rw is at (raised_told 0 rest k b b inside)).0 in
    elim (raised_back 0 rest k n b b inside (rw is high)) [
      | inl none ↦ grind (arith, Contains-get_or rest k b)
      | inr w ↦ grind (arith, Contains-get_or rest w.0 b, up w.0 k b)
    ]

pub raised_is : (rest : List Interval) → RisesByStart rest → IsRaised rest (raised 0 rest)
raised_is rest up = record {
  starts = λ i j d h k.
      grind (arith, length-raised 0 rest, up i j d, raised_told 0 rest i d d, raised_told 0 rest j d d);
  ends = λ i j d h k. raised_rises 0 rest i j d h (omega (arith, length-raised 0 rest));
  reached = λ n m. (reached_back rest n m up, reached_on rest n m);
}

-- one more interval raised in place
pub raised_more : (xs all : List Interval) (k top : ℕ) (d : Interval) → k < length xs
    → take k xs ++ raised top (drop k xs) ≡ all
    → take (k + 1) (set xs k (record { start = (get_or xs k d).start; end = max (get_or xs k d).end top }))
    ++ raised (max (get_or xs k d).end top)
    (drop (k + 1) (set xs k (record { start = (get_or xs k d).start; end = max (get_or xs k d).end top }))) ≡ all
raised_more xs all k top d h e = grind (arith, append_assoc, take_more_set, drop-set-lt, raised_at)

-- what the intervals reach is what the ranges hold
reached_held : (rs : List MarkedRange) (xs : List Interval) (n m : ℕ) → AreIntervals rs xs → n ≤ m
    → Reached xs n m ↔ IsHeld rs n m
reached_held rs xs n m members up = (
  λ (a, member, low, high). let (i, r, there, full, is) = (members a).0 member in
      (i, r, there, (max n r.start, grind arith, grind arith, grind arith)),
  λ (i, r, there, w). grind (arith, (members (interval_of r)).1),
)

pub cover_is : (rs : List MarkedRange) (xs cover : List Interval) → AreIntervals rs xs → IsRaised xs cover
    → IsCover rs cover
cover_is rs xs cover members h = record {
  starts = h.starts;
  ends = h.ends;
  reached = λ n m up. grind (arith, h.reached n m, reached_held rs xs n m members up);
}

module _ (rs : List MarkedRange) (cover : List Interval) (h : IsCover rs cover) where
  pub used_told : (n : ℕ) → Reached cover n n ↔ IsUsed rs n
  used_told n = grind (arith, h.reached n n)

  -- a range shares a number with s
  pub shared_told : (s : MarkedRange)
      → (s.start ≤ s.end) × Reached cover s.start s.end ↔ ((i : ℕ) × (r : MarkedRange) × StandsAt rs i r × Share r s)
  shared_told s = grind (arith, h.reached s.start s.end)

abbrev pub blank : Interval
blank = record { start = 0; end = 0 }

-- those that begin by m stand before those that do not
abbrev IsBegun : List Interval → (m begun : ℕ) → Type 0
IsBegun cover m begun = IsPartitionPoint (λ (a : Interval). leb a.start m ≡ true)
    (λ (a : Interval). leb a.start m ≡ false) cover begun

-- so the last of these tells what is reached
pub reached_told : (cover : List Interval) (n m begun : ℕ) (d : Interval) → RisesByStart cover → RisesByEnd cover
    → begun ≤ length cover → (IsPartitionedBy (λ (a : Interval). leb a.start m) cover → IsBegun cover m begun)
    → ((0 < begun) × (n ≤ (get_or cover (begun - 1) d).end)) ↔ Reached cover n m
reached_told cover n m begun d starts ends within split =
    let begins = split (IsPartitionedBy-leb (λ (a : Interval). a.start) cover m starts) in (
      λ (some, w). grind (arith, nat_tests, Contains-get_or cover (begun - 1) d, begins.0 (begun - 1) d),
      λ w. grind (
        arith,
        nat_tests,
        cases_lt w.1.0 begun,
        begins.1 w.1.0,
        ends w.1.0 (begun - 1),
        get_or_default cover (begun - 1),
      ),
    )
