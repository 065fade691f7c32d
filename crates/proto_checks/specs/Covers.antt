-- Intervals of numbers in order, and the numbers that they reach.
use Rattle.std.specs.Prelude.{◌≡◌, ℕ, ◌≤◌, ◌↔◌, List, Contains}
use Rattle.std.specs.List.Sorted.{IsNonDecreasingBy}
use Rattle.proto_base.specs.declared.kind.Kind.TheVariants as kind
use Rattle.proto_base.specs.Least.{spot}
use Rattle.proto_checks.specs.Marks.{Holds, Share}
use Rattle.proto_base.specs.Sets.{StandsAt}
use Rattle.proto_checks.specs.declared.covers.Interval.{Interval}
use Rattle.proto_checks.specs.declared.marks.MarkedRange.{MarkedRange}
use Rattle.proto_base.specs.declared.spot.Spot.{Spot}

abbrev pub interval_of : MarkedRange → Interval
interval_of r = record { start = r.start; end = r.end }

-- the intervals are the ranges that hold a number
abbrev pub AreIntervals : List MarkedRange → List Interval → Type 0
AreIntervals rs xs = (a : Interval) → Contains xs a
    ↔ ((i : ℕ) × (r : MarkedRange) × StandsAt rs i r × (r.start ≤ r.end) × (a ≡ interval_of r))

abbrev pub RisesByStart : List Interval → Type 0
RisesByStart = IsNonDecreasingBy (λ (a : Interval). a.start)

abbrev pub RisesByEnd : List Interval → Type 0
RisesByEnd = IsNonDecreasingBy (λ (a : Interval). a.end)

-- an interval begins by m and does not end before n: where n ≤ m, it has a number from n to m
abbrev pub Reached : List Interval → (n m : ℕ) → Type 0
Reached xs n m = (a : Interval) × Contains xs a × (a.start ≤ m) × (n ≤ a.end)

-- in order by start and by end, and reaching what xs reach
pub record IsRaised (xs raised : List Interval) : Type 0 where
  pub starts : RisesByStart raised
  pub ends : RisesByEnd raised
  pub reached : (n m : ℕ) → Reached raised n m ↔ Reached xs n m

-- a range holds a number from n to m
abbrev pub IsHeld : List MarkedRange → (n m : ℕ) → Type 0
IsHeld rs n m = (i : ℕ) × (r : MarkedRange) × StandsAt rs i r × ((k : ℕ) × (n ≤ k) × (k ≤ m) × Holds r k)

-- in order by start and by end, and reaching what the ranges hold
pub record IsCover (rs : List MarkedRange) (cover : List Interval) : Type 0 where
  pub starts : RisesByStart cover
  pub ends : RisesByEnd cover
  pub reached : (n m : ℕ) → n ≤ m → Reached cover n m ↔ IsHeld rs n m

-- a range holds n
abbrev pub IsUsed : List MarkedRange → ℕ → Type 0
IsUsed rs n = (i : ℕ) × (r : MarkedRange) × StandsAt rs i r × Holds r n

-- a later range that shares a number with one of rs
abbrev pub IsAcross : List MarkedRange → MarkedRange → Spot → Type 0
IsAcross rs s x = ((i : ℕ) × (r : MarkedRange) × StandsAt rs i r × Share r s) × (x ≡ spot s.place kind.ReservedOverlap)
