-- Of two spots neither of which comes later, both are one: a set of spots has one least.
use Rattle.std.proofs.Common.{◌≡◌, ◌∙◌, ℕ, ap, arith}
use Rattle.std.specs.Ordering.{is_eq}
use Rattle.std.proofs.lemmas.Cmp.{nat_cmp_total, tied_itself}
use denote.Enum.Bare.{same_true}
use Rattle.proto_base.specs.Kind.{number_of}
use Rattle.proto_base.proofs.KindOrder.{one_number}
use Rattle.proto_base.specs.Least.{AtMost, spot}
use Rattle.proto_base.specs.contracts.kind.Kind.{the_type}
use Rattle.proto_base.specs.declared.kind.Kind.{Kind}
use Rattle.proto_base.specs.declared.place.Place.{Place}
use Rattle.proto_base.specs.declared.spot.Spot.{Spot}

pub same_kind : (a b : Kind) → number_of a ≡ number_of b → a ≡ b
same_kind a b e = same_true the_type tt a b
    (one_number a b ∙ rw e (ap is_eq (tied_itself nat_cmp_total (number_of b))))

pub same_place : (p q : Place) → p.offset ≡ q.offset → p ≡ q
same_place p q e = let place : ℕ → Place = λ n. record { offset = n } in ap place e

-- spots of one place and kind are one
pub same_spot : (x y : Spot) → x.place.offset ≡ y.place.offset → x.kind ≡ y.kind → x ≡ y
same_spot x y place kind =
    ap (λ p. spot p x.kind) (same_place x.place y.place place) ∙ ap (spot y.place) kind

pub one_spot : (p q : Place) (k l : Kind) → AtMost (spot p k) (spot q l) → AtMost (spot q l) (spot p k)
    → (p ≡ q) × (k ≡ l)
one_spot p q k l before after = grind (arith, same_place, same_kind)
