-- Spots sorted, each once, come one before another.
use Rattle.std.proofs.Common.{◌≡◌, List, [], ◌∷◌, arith}
use Rattle.std.specs.Prelude.{Bool, true, ◌&&◌, nat_eq, AllPairs}
use Rattle.std.specs.Cmp.{IsEquivalence, IsTotalOrder}
use Rattle.std.specs.Cmp.Derive.{number, numbered_total}
use Rattle.std.specs.List.Sorted.{IsStrictlySortedBy}
use Rattle.std.specs.Ordering.{eq_by_cmp, int_cmp, nat_cmp, ordering_then}
use Rattle.std.specs.declared.cmp.Ordering.{Ordering}
use Rattle.std.specs.declared.cmp.Ordering.TheVariants.{Less}
use Rattle.std.proofs.lemmas.Bool.{and_parts}
use Rattle.std.proofs.lemmas.Bool.Decides.{nat_tests}
use Rattle.std.proofs.lemmas.Cmp.{and_equiv, nat_cmp_total, nat_eq_equiv, on_equiv, on_total, then_total}
use Rattle.std.proofs.lemmas.List.Elements.{All-weaker}
use Rattle.std.proofs.lemmas.List.Kept.{AllPairs-cons}
use Rattle.std.proofs.lemmas.Map.Keys.{sorted_tail}
use Rattle.std.proofs.lemmas.Map.Views.{All-after_first}
use denote.Enum.Bare.{sameb, same_true}
use denote.Enum.Declared.{tag_of}
use Rattle.proto_base.specs.Least.{Precedes}
use Rattle.proto_base.specs.contracts.kind.Kind.{the_type}
use Rattle.proto_base.specs.declared.spot.Spot.{Spot}
use Rattle.proto_base.proofs.KindOrder.{by_number, numbers, one_number}
use Rattle.proto_base.proofs.Spots.{same_spot}

-- as the derived order compares spots, and as `==` does
abbrev pub spot_cmp : Spot → Spot → Ordering
spot_cmp a b = ordering_then (nat_cmp a.place.offset b.place.offset)
    (int_cmp (number the_type numbers a.kind) (number the_type numbers b.kind))

abbrev pub spot_eq : Spot → Spot → Bool
spot_eq a b = nat_eq a.place.offset b.place.offset && sameb the_type a.kind b.kind

pub spot_total : IsTotalOrder spot_cmp
spot_total = then_total (on_total (λ (x : Spot). x.place.offset) nat_cmp_total)
    (on_total (λ (x : Spot). x.kind) (numbered_total the_type numbers))

pub spot_equiv : IsEquivalence spot_eq
spot_equiv = and_equiv (on_equiv (λ (x : Spot). x.place.offset) nat_eq_equiv)
    (on_equiv (λ (x : Spot). tag_of the_type x.kind) nat_eq_equiv)

pub spot_ties : (a b : Spot) → spot_eq a b ≡ eq_by_cmp spot_cmp a b
spot_ties a b = rw (one_number a.kind b.kind, by_number a.kind b.kind) (grind (arith, nat_tests))

pub one_spot_of : (a b : Spot) → spot_eq a b ≡ true → a ≡ b
one_spot_of a b same =
    let parts = and_parts (nat_eq a.place.offset b.place.offset) (sameb the_type a.kind b.kind) same in
    same_spot a b (grind (arith, nat_tests)) (same_true the_type tt a.kind b.kind parts.1)

less_precedes : (a b : Spot) → spot_cmp a b ≡ Less → Precedes a b
less_precedes a b less = let known = rw (by_number a.kind b.kind) at less in grind (arith, nat_tests)

-- each comes before all behind it
pub all_precede : (xs : List Spot) → IsStrictlySortedBy spot_cmp xs → AllPairs Precedes xs
all_precede [] up = λ i j d before below. absurd (omega (arith, below))
all_precede (x ∷ xs) up = AllPairs-cons Precedes x xs
    (All-weaker (λ y. spot_cmp x y ≡ Less) (Precedes x) (less_precedes x) xs (All-after_first spot_cmp x xs up))
    (all_precede xs (sorted_tail spot_cmp x xs up))
