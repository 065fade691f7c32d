-- The spots of the rules on marks lie where the marks do.
use Rattle.std.proofs.Common.{◌≡◌, sym, subst, ℕ, zero, suc, ◌≤◌, List, [], ◌∷◌, map, arith}
use Rattle.std.specs.List.{AllByRecursion}
use Rattle.proto_base.specs.declared.kind.Kind.{Kind}
use Rattle.proto_base.specs.declared.place.Place.{Place}
use Rattle.proto_base.specs.Least.{spot}
use Rattle.proto_checks.specs.Marks.{Marked, NumberTwice, TextTwice, IsReservedName, ReservedNameUsed}
use Rattle.proto_base.specs.Sets.{StandsAt, Each, Later}
use Rattle.proto_checks.specs.declared.marks.MarkedNumber.{MarkedNumber}
use Rattle.proto_file.proofs.PlacesWithin.{each_map}
use Rattle.proto_base.specs.declared.spot.Spot.{Spot}

abbrev pub Placed : ℕ → Place → Type 0
Placed n p = p.offset ≤ n

abbrev pub SpotWithin : ℕ → Spot → Type 0
SpotWithin n x = Placed n x.place

pub at_spot : (n : ℕ) (p : Place) (k : Kind) (x : Spot) → Placed n p → x ≡ spot p k → SpotWithin n x
at_spot n p k x within e = subst (SpotWithin n) (sym e) within

-- what holds of all holds of what stands at a position
pub standing : {X : Type 0} (P : X → Type 0) (xs : List X) (i : ℕ) (a : X) → AllByRecursion P xs → StandsAt xs i a → P a
standing P [] i a all at = absurd (omega (arith, at.0))
standing P (x ∷ xs) zero a all at = subst P at.1 all.0
standing P (x ∷ xs) (suc i) a all at = standing P xs i a all.1 (omega (arith, at.0), at.1)

pub each_within : {X : Type 0} (P : X → Type 0) (S : X → Spot → Type 0) (n : ℕ) (xs : List X) (x : Spot)
    → AllByRecursion P xs
    → ((a : X) → P a → S a x → SpotWithin n x) → Each xs S x → SpotWithin n x
each_within P S n xs x all h (i, a, at, s) = h a (standing P xs i a all at) s

pub later_within : {X : Type 0} (P : X → Type 0) (R : X → X → Type 0) (place : X → Place) (k : Kind) (n : ℕ)
    (xs : List X) (x : Spot) → ((a : X) → P a → Placed n (place a)) → AllByRecursion P xs
    → Later xs R (λ a. spot (place a) k) x → SpotWithin n x
later_within P R place k n xs x h all (i, j, a, b, before, at, at', r, e) =
    at_spot n (place b) k x (h b (standing P xs j b all at')) e

abbrev pub NumbersWithin : ℕ → List MarkedNumber → Type 0
NumbersWithin n ns = AllByRecursion (λ m. Placed n m.place) ns

-- those of numbers, where C holds
pub number_at : (C : MarkedNumber → Type 0) (k : Kind) (n : ℕ) (ns : List MarkedNumber) (x : Spot)
    → NumbersWithin n ns → Each ns (λ m x. C m × (x ≡ spot m.place k)) x → SpotWithin n x
number_at C k n ns x all b = each_within (λ (m : MarkedNumber). Placed n m.place)
    (λ m x. C m × (x ≡ spot m.place k)) n ns x all (λ m within s. at_spot n m.place k x within s.1) b

pub number_twice : (n : ℕ) (k : Kind) (ns : List MarkedNumber) (x : Spot) → NumbersWithin n ns → NumberTwice k ns x
    → SpotWithin n x
number_twice n k ns x all b =
    later_within (λ (m : MarkedNumber). Placed n m.place) _ (λ (m : MarkedNumber). m.place) k n ns x (λ m w. w) all b

-- those of marks
pub text_twice : {X : Type 0} (n : ℕ) (k : Kind) (mark : X → Marked) (xs : List X) (x : Spot)
    → AllByRecursion (λ a. Placed n (mark a).place) xs → TextTwice k (map mark xs) x → SpotWithin n x
text_twice n k mark xs x all b =
    later_within (λ (t : Marked). Placed n t.place) _ (λ (t : Marked). t.place) k n (map mark xs) x (λ t w. w)
    (each_map (λ (t : Marked). Placed n t.place) mark xs all) b

pub name_used : {X : Type 0} (n : ℕ) (reserved : List (List ℕ)) (mark : X → Marked) (xs : List X) (x : Spot)
    → AllByRecursion (λ a. Placed n (mark a).place) xs → ReservedNameUsed reserved (map mark xs) x → SpotWithin n x
name_used n reserved mark xs x all b =
    each_within (λ (t : Marked). Placed n t.place) (IsReservedName reserved) n (map mark xs) x
    (each_map (λ (t : Marked). Placed n t.place) mark xs all) (λ t within s. at_spot n t.place _ x within s.1) b
