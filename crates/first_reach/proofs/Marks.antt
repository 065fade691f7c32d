-- What workers' marks post.
use Rattle.std.proofs.lemmas.List.{length-take}
use Rattle.share_work.proofs.PieceRows.{take_get}
use Rattle.std.proofs.Common.{◌≡◌, ℕ, suc, ◌+◌, ◌<◌, ◌⊎◌, inl, inr, ◌↔◌, Option, Some, None, List, [], ◌∷◌, ◌++◌, take, length, reverse, sym, ap, subst, ◌∙◌, arith, slice_get, All, drop, map, sum, sum_by, append-nil, Contains, flat_map}
use Rattle.std.proofs.lemmas.Bool.{cases_lt}
use Rattle.std.proofs.lemmas.Option.{slice_get-get_or, slice_get_within}
use Rattle.std.proofs.lemmas.List.Elements.{Contains-append_left, Contains-append_right, Contains-append_cases}
use Rattle.std.proofs.lemmas.List.Sorted.{Contains-permutation, IsPermutation-reverse, IsPermutation-sym}
use Rattle.std.proofs.lemmas.List.Sums.{sum-map}
use Rattle.std.proofs.Math.Seq.{take-length}
use Rattle.std.proofs.Math.ListN.{drop_of_length-le}
use Rattle.share_work.specs.Marks.{MarkSeatValue, at_each, marked_posts}
use Rattle.share_work.specs.Shares.{AddsSome}
use Rattle.share_work.proofs.MarkSteps.{each_to, marked_from, marked_to}
use Rattle.share_work.proofs.Sums.{none_in, contains_at, in_map, in_flat, of_flat}
use Rattle.share_work.proofs.Together.{HoldTogether}
use Rattle.first_reach.specs.First.{RootReaches}
use Rattle.first_reach.specs.Seats.{HasPosted, Posts}
use Rattle.first_reach.proofs.Lists.{all_get}

take_under : {X : Type 0} (n : ℕ) (xs : List X) (o : ℕ) (t : X) → slice_get (take n xs) o ≡ Some t
    → (o < n) × (slice_get xs o ≡ Some t)
take_under n xs o t e = grind (arith, length-take, slice_get_within, take_get)

take_there : {X : Type 0} (n : ℕ) (xs : List X) (o : ℕ) (t : X) → o < n → slice_get xs o ≡ Some t
    → slice_get (take n xs) o ≡ Some t
take_there (suc n) (x ∷ xs) (suc o) t h e = take_there n xs o t (omega arith) e
take_there n xs o t h e = grind arith

-- what one more item adds
adds_more : {T : Type 0} (adds : ℕ → T → ℕ → ℕ → Type 0) (first k : ℕ) (items : List T) (t : T)
    → slice_get items k ≡ Some t → (x n : ℕ)
    → AddsSome adds first (take (k + 1) items) x n ↔ (AddsSome adds first (take k items) x n ⊎ adds (first + k) t x n)
adds_more {T = T} adds first k items t e x n = (
  λ a.
      let here = take_under (k + 1) items a.0 a.1 a.2 in
      elim (cases_lt a.0 k) [
        | inl lt ↦ inl (a.0, a.1, take_there k items a.0 a.1 lt here.1, a.3)
        | inr ge ↦ inr (grind arith)
      ],
  λ h. elim h [
    | inl a ↦ let r = take_under k items a.0 a.1 a.2 in
        (a.0, a.1, take_there (k + 1) items a.0 a.1 (omega arith) r.1, a.3)
    | inr b ↦ (k, t, take_there (k + 1) items k t (omega arith) e, b)
  ],
)

-- the seat has posted what it had before and what the items add
abbrev pub HasMarked : (ℕ → List ℕ) → ℕ → List (Option ℕ) → MarkSeatValue → MarkSeatValue → Type 0
HasMarked reach first items old new = (x n : ℕ)
    → HasPosted reach new x n ↔ (HasPosted reach old x n ⊎ AddsSome (Posts reach) first items x n)

step_some : {A H M N O P W : Type 0} → (A → W ⊎ H) → (W → A) → (H → A) → H ↔ (O ⊎ M) → N ↔ (M ⊎ P) → (W → P) → (P → W)
    → A ↔ (O ⊎ N)
step_some cases left right before more to from = grind arith

step_none : {H M N O P : Type 0} → H ↔ (O ⊎ M) → N ↔ (M ⊎ P) → (P → ⊥) → H ↔ (O ⊎ N)
step_none before more out = grind arith

-- one more item with a root
pub marks_root : (reach : ℕ → List ℕ) (first k r : ℕ) (items : List (Option ℕ)) (old was new : MarkSeatValue)
    → slice_get items k ≡ Some (Some r)
    → new.view.marks ≡ (r, first + k) ∷ was.view.marks → HasMarked reach first (take k items) old was
    → HasMarked reach first (take (k + 1) items) old new
marks_root reach first k r items old was new e marks before x n =
    let now : List (ℕ × ℕ) = at_each (first + k) (reach r) in
    let had : List (ℕ × ℕ) = marked_posts reach was.view.marks in
    rw marks (step_some (Contains-append_cases now had (x, n)) (Contains-append_left now had (x, n))
    (Contains-append_right now had (x, n)) (before x n) (adds_more (Posts reach) first k items (Some r) e x n)
    (λ w. let t = each_to (first + k) (reach r) x n w in (sym t.0, t.1))
    (λ d. subst (λ m. Contains now (x, m)) (sym d.0) (in_map (λ f. (f, first + k)) (reach r) x d.1)))

-- one more item without a root
pub marks_none : (reach : ℕ → List ℕ) (first k : ℕ) (items : List (Option ℕ)) (old was new : MarkSeatValue)
    → slice_get items k ≡ Some None
    → new ≡ was → HasMarked reach first (take k items) old was → HasMarked reach first (take (k + 1) items) old new
marks_none reach first k items old was new e same before x n =
    rw same (step_none (before x n) (adds_more (Posts reach) first k items None e x n) (λ d. none_in x d.1))

-- all seats together have posted n at g exactly where root n reaches g
pub all_posted : (reach : ℕ → List ℕ) (roots : List (Option ℕ)) (old new : List MarkSeatValue) (marks : List (ℕ × ℕ))
    → HoldTogether (λ s g n. HasPosted reach s g n) (Posts reach) roots old new → All (λ s. s.view.marks ≡ []) old
    → marks ≡ flat_map (λ s. s.view.marks) (reverse new)
    → (g n : ℕ) → Contains (marked_posts reach marks) (g, n) ↔ RootReaches reach roots g n
all_posted reach roots old new marks together none final g n =
    let of_seat : MarkSeatValue → List (ℕ × ℕ) = λ s. s.view.marks in
    let Q : List (ℕ × ℕ) → Type 0 = λ ms. Contains (marked_posts reach ms) (g, n) in (
      λ h.
          let post = marked_to reach (flat_map of_seat (reverse new)) g n (subst Q final h) in
          let by = of_flat of_seat (reverse new) (post.0, n) post.1 in
          let seat = Contains-permutation (reverse new) new by.0
          (IsPermutation-sym new (reverse new) (IsPermutation-reverse new)) by.1 in
          let at : slice_get new seat.0 ≡ Some by.0 = cc (slice_get-get_or new seat.0 by.0 seat.1, seat.2) in
          elim ((together g n).0 (seat.0, by.0, at, marked_from reach by.0.view.marks post.0 g n by.2 post.2)) [
            | inl was ↦
                absurd (none_in (g, n)
                (subst Q (all_get (λ (s : MarkSeatValue). s.view.marks ≡ []) old was.0 was.1 none was.2) was.3))
            | inr a ↦ let same : a.0 ≡ n = omega (arith, a.3.0) in (a.1, rw same at a.2, a.3.1)
          ],
      λ r.
          let got = (together g n).1 (inr (n, r.0, r.1, (omega arith, r.2))) in
          let seat = Contains-permutation new (reverse new) got.1 (IsPermutation-reverse new)
          (contains_at new got.0 got.1 got.2) in
          let post = marked_to reach got.1.view.marks g n got.3 in
          subst Q (sym final) (marked_from reach (flat_map of_seat (reverse new)) post.0 g n
          (in_flat of_seat (reverse new) got.1 (post.0, n) seat post.1) post.2),
    )

pub same_sums : {X : Type 0} (f : X → ℕ) (xs ys : List X) → map f xs ≡ map f ys → sum_by f xs ≡ sum_by f ys
same_sums f xs ys e = sym (sum-map f xs) ∙ ap sum e ∙ sum-map f ys

-- a vector whose whole slice was written
pub written : {X : Type 0} (items slice new : List X) (n : ℕ) → slice ≡ items → length slice ≡ n
    → length new ≡ length slice
    → take n (new ++ drop (length new) items) ≡ new
written items slice new n value len same = grind (arith, append-nil, drop_of_length-le, take-length)
