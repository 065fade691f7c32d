-- What workers take, give and add for the items of a list.
use Rattle.std.specs.Prelude.{map, ◌⊎◌, ◌≡◌, ℕ, ◌+◌, ◌*◌, List, length, take, drop, slice_get, Some}

-- outs has one member for each item, each as `gives` says of the item's position and the item; first is the position
-- of the first item
abbrev pub GivesItems : {T O : Type 0} → (ℕ → T → O → Type 0) → ℕ → List T → List O → Type 0
GivesItems {T} {O} gives first items outs =
    (length outs ≡ length items)
    × ((i : ℕ) (t : T) (o : O) → slice_get items i ≡ Some t → slice_get outs i ≡ Some o → gives (first + i) t o)

-- each item is taken at its position, the first one at position first
abbrev pub TakesAll : {T : Type 0} → (ℕ → T → Type 0) → ℕ → List T → Type 0
TakesAll {T} takes first items = (i : ℕ) (t : T) → slice_get items i ≡ Some t → takes (first + i) t

-- each seat keeps its number
abbrev pub KeepsNumbers : {S : Type 0} → (S → ℕ) → List S → List S → Type 0
KeepsNumbers number old new = map number new ≡ map number old

-- what items add
module _ {T : Type 0} (adds : ℕ → T → ℕ → ℕ → Type 0) where
  -- one of these items, the first of which stands at position first, adds n at x
  abbrev pub AddsSome : ℕ → List T → ℕ → ℕ → Type 0
  AddsSome first items x n = (i : ℕ) × (t : T) × (slice_get items i ≡ Some t) × adds (first + i) t x n

  -- one of the items of the pieces w, w + workers and so on does
  abbrev pub AddsInRow : ℕ → ℕ → List T → ℕ → ℕ → ℕ → Type 0
  AddsInRow workers cut items w x n =
      (k : ℕ) × AddsSome ((w + k * workers) * cut) (take cut (drop ((w + k * workers) * cut) items)) x n

-- what seats gain
module _ {S T : Type 0} (holds : S → ℕ → ℕ → Type 0) (adds : ℕ → T → ℕ → ℕ → Type 0) (workers cut : ℕ)
    (items : List T) where
  -- the seat of worker w gains nothing but the sets of its items
  pub record SeatGains (w : ℕ) (old new : S) : Type 0 where
    pub kept : (x n : ℕ) → holds old x n → holds new x n
    pub within : (x n : ℕ) → holds new x n → holds old x n ⊎ AddsInRow adds workers cut items w x n

  -- and all of them
  pub record SeatHas (w : ℕ) (new : S) : Type 0 where
    pub gained : (x n : ℕ) → AddsInRow adds workers cut items w x n → holds new x n

  -- each of some seats, the first of which is that of worker `from`, gains nothing else
  pub record SeatsGain (from : ℕ) (old new : List S) : Type 0 where
    pub len : length new ≡ length old
    pub each : (j : ℕ) (s s' : S) → slice_get old j ≡ Some s → slice_get new j ≡ Some s' → SeatGains (from + j) s s'

  -- and all of that
  pub record SeatsHave (from : ℕ) (new : List S) : Type 0 where
    pub each : (j : ℕ) (s : S) → slice_get new j ≡ Some s → SeatHas (from + j) s
