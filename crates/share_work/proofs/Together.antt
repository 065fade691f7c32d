-- What all seats hold together, as a caller of `in_shares` gets it from what each seat gains.
use Rattle.share_work.proofs.Common.{◌≡◌, ℕ, zero, suc, ◌+◌, ◌*◌, ◌/◌, ◌%◌, ◌<◌, ◌⊎◌, ◌↔◌, inl, inr, ⊎_elim, List, [], ◌∷◌, take, drop, length, refl, arith, slice_get, Some, div-add-mod', slice_get_within, AddsSome, SeatsGain, SeatsHave}
use Rattle.std.proofs.lemmas.Nat.{mod_below}
use Rattle.share_work.proofs.PieceRows.{get_drop, get_take, take_get}

pub get_there : {X : Type 0} (xs : List X) (j : ℕ) → j < length xs → (x : X) × (slice_get xs j ≡ Some x)
get_there [] j h = absurd (omega arith)
get_there (x ∷ xs) zero h = (x, refl)
get_there (x ∷ xs) (suc j) h = get_there xs j (omega arith)

-- some seat holds n at x
abbrev pub SomeHolds : {S : Type 0} → (S → ℕ → ℕ → Type 0) → List S → ℕ → ℕ → Type 0
SomeHolds {S} holds seats x n = (j : ℕ) × (s : S) × (slice_get seats j ≡ Some s) × holds s x n

module _ {S T : Type 0} (holds : S → ℕ → ℕ → Type 0) (adds : ℕ → T → ℕ → ℕ → Type 0) (items : List T) where
  -- exactly what they held before and what the items add
  abbrev pub HoldTogether : List S → List S → Type 0
  HoldTogether old new = (x n : ℕ) → SomeHolds holds new x n ↔ (SomeHolds holds old x n ⊎ AddsSome adds 0 items x n)

module _ {S T : Type 0} (holds : S → ℕ → ℕ → Type 0) (adds : ℕ → T → ℕ → ℕ → Type 0) (workers cut : ℕ) (items : List T)
    (old new : List S) where
  pub held_together : 0 < workers → 0 < cut → length old ≡ workers → SeatsGain holds adds workers cut items 0 old new
      → SeatsHave holds adds workers cut items 0 new → HoldTogether holds adds items old new
  held_together some_workers some_items many gain have x n = (
    -- what a seat holds it held before, or an item adds it
    λ (j, s, at, h).
        let was = get_there old j (omega (arith, gain.len, slice_get_within new j s at)) in
        elim ((gain.each j was.0 s was.1 at).within x n h) [
          | inl b ↦ inl (j, was.0, was.1, b)
          | inr (k, (i, t, here, a)) ↦
              let p : ℕ = (0 + j + k * workers) * cut in let same : 0 + (p + i) ≡ p + i = omega arith in
              inr (p + i, t, rw get_drop at (take_get cut (drop p items) i t here), rw same a)
        ],
    ⊎_elim
        -- what a seat held it still holds
        (λ (j, s, at, h).
        let now = get_there new j (omega (arith, gain.len, slice_get_within old j s at)) in
        (j, now.0, now.1, (gain.each j s now.0 at now.1).kept x n h))
        -- what an item adds, one of the seats holds
        (λ (i, t, at, a).
        let piece : ℕ = i / cut in let w : ℕ = piece % workers in let k : ℕ = piece / workers in let o : ℕ = i % cut in
        let p : ℕ = (0 + w + k * workers) * cut in let inside = mod_below i cut some_items in
        let whole : 0 + w + k * workers ≡ piece = omega (arith, div-add-mod' piece workers) in
        let here : p + o ≡ 0 + i = rw whole (omega (arith, div-add-mod' i cut)) in
        let seat = get_there new w (omega (arith, gain.len, mod_below piece workers some_workers)) in
        let got : slice_get (take cut (drop p items)) o ≡ Some t = grind (arith, get_drop, get_take) in
        (w, seat.0, seat.1, (have.each w seat.0 seat.1).gained x n (k, (o, t, got, rw here a)))),
  )
