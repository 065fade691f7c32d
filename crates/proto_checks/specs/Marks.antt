-- Rules on numbers, texts and ranges of numbers, each with its place.
use Rattle.std.specs.Prelude.{◌≡◌, ℕ, ◌<◌, ◌≤◌, List, Contains}
use Rattle.proto_base.specs.declared.kind.Kind.{Kind}
use Rattle.proto_base.specs.declared.kind.Kind.TheVariants as kind
use Rattle.proto_base.specs.declared.place.Place.{Place}
use Rattle.proto_base.specs.Least.{spot}
use Rattle.proto_base.specs.Sets.{StandsAt, Each, Later}
use Rattle.proto_checks.specs.declared.marks.MarkedNumber.{MarkedNumber}
use Rattle.proto_checks.specs.declared.marks.MarkedRange.{MarkedRange}
use Rattle.proto_base.specs.declared.spot.Spot.{Spot}

-- a text and where it stands
pub record Marked : Type 0 where
  pub text : List ℕ
  pub place : Place

-- a number that an earlier one equals
abbrev pub NumberTwice : Kind → List MarkedNumber → Spot → Type 0
NumberTwice k ns = Later ns (λ a b. a.number ≡ b.number) (λ b. spot b.place k)

-- a text that an earlier one equals
abbrev pub TextTwice : Kind → List Marked → Spot → Type 0
TextTwice k ts = Later ts (λ a b. a.text ≡ b.text) (λ b. spot b.place k)

-- a number outside of those from the least to the greatest
abbrev pub IsOutside : (least greatest : ℕ) → Kind → MarkedNumber → Spot → Type 0
IsOutside least greatest k n x = ((least ≤ n.number) × (n.number ≤ greatest) → ⊥) × (x ≡ spot n.place k)

abbrev pub Outside : (least greatest : ℕ) → Kind → List MarkedNumber → Spot → Type 0
Outside least greatest k ns = Each ns (IsOutside least greatest k)

-- a range whose end is below its start holds no number
abbrev pub Holds : MarkedRange → ℕ → Type 0
Holds r n = (r.start ≤ n) × (n ≤ r.end)

abbrev pub Share : MarkedRange → MarkedRange → Type 0
Share r s = (n : ℕ) × Holds r n × Holds s n

abbrev pub ReservedOverlap : List MarkedRange → Spot → Type 0
ReservedOverlap rs = Later rs Share (λ s. spot s.place kind.ReservedOverlap)

abbrev pub IsBackwards : MarkedRange → Spot → Type 0
IsBackwards r x = (r.end < r.start) × (x ≡ spot r.place kind.ReservedBackwards)

abbrev pub ReservedBackwards : List MarkedRange → Spot → Type 0
ReservedBackwards rs = Each rs IsBackwards

-- a number that one of the ranges holds
abbrev pub IsReserved : List MarkedRange → MarkedNumber → Spot → Type 0
IsReserved rs n x =
    ((i : ℕ) × (r : MarkedRange) × StandsAt rs i r × Holds r n.number) × (x ≡ spot n.place kind.ReservedNumberUsed)

abbrev pub ReservedNumberUsed : List MarkedRange → List MarkedNumber → Spot → Type 0
ReservedNumberUsed rs ns = Each ns (IsReserved rs)

-- a text that is one of the reserved ones
abbrev pub IsReservedName : List (List ℕ) → Marked → Spot → Type 0
IsReservedName reserved t x = Contains reserved t.text × (x ≡ spot t.place kind.ReservedNameUsed)

abbrev pub ReservedNameUsed : List (List ℕ) → List Marked → Spot → Type 0
ReservedNameUsed reserved ts = Each ts (IsReservedName reserved)
