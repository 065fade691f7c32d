-- Files have one set order, and one first bad import.
use Rattle.proto_links.proofs.Common.{common_steps, ◌≡◌, ℕ, zero, suc, ◌+◌, ◌<◌, ◌≤◌, List, length, refl, arith, get_or_default, Contains-get_or, FileDesc, Kind, spot, Linked, AreLinked, AreRanks, IsBefore, IsInSetOrder, rank_of}
use Rattle.proto_base.specs.declared.place.Place.{Place}
use Rattle.proto_base.proofs.Spots.{one_spot}
use Rattle.proto_links.specs.Bad.{IsFirstBad}
use Rattle.proto_links.proofs.Rising.{IsStrict, Rises, one_rising}

-- ---- ranks

rank_le : (files : List FileDesc) (f g : ℕ → ℕ) → AreRanks files f → AreRanks files g → (rank a : ℕ) → a < length files
    → f a ≡ rank → f a ≤ g a
rank_le files f g first second zero a h e = omega arith
rank_le files f g first second (suc rank) a h e =
    let least = first.least a h in
    grind (arith, rank_le files f g first second rank, second.above a)

-- ---- set order

pub before_strict : (rank : ℕ → ℕ) → IsStrict (IsBefore rank)
before_strict rank = grind (arith, common_steps)

same_before : (f g : ℕ → ℕ) (a b : ℕ) → f a ≡ g a → f b ≡ g b → IsBefore f a b → IsBefore g a b
same_before f g a b ea eb before = grind (arith, common_steps)

pub order_rises : (rank : ℕ → ℕ) (order : List ℕ) → IsInSetOrder rank order → Rises (IsBefore rank) order
order_rises rank order up k d h = grind (arith, get_or_default)

pub one_set_order : (files : List FileDesc) (links others : Linked) → AreLinked files links → AreLinked files others
    → links.set_order ≡ others.set_order
one_set_order files links others first second =
    let rank = rank_of others in
    let same : (a : ℕ) → a < length files → rank_of links a ≡ rank a =
    λ a h. omega (
      arith,
      rank_le files (rank_of links) rank first.ranks second.ranks (rank_of links a) a h refl,
      rank_le files rank (rank_of links) second.ranks first.ranks (rank a) a h refl,
    ) in
    one_rising (IsBefore rank) (before_strict rank) links.set_order others.set_order
    (λ k d h. same_before (rank_of links) rank _ _
    (same _ ((first.order.every _).0 (Contains-get_or links.set_order k d (omega arith))))
    (same _ ((first.order.every _).0 (Contains-get_or links.set_order (k + 1) d h)))
    (order_rises (rank_of links) links.set_order first.order.rises k d h))
    (order_rises rank others.set_order second.order.rises)
    (λ a w. (second.order.every a).1 ((first.order.every a).0 w))
    (λ a w. (first.order.every a).1 ((second.order.every a).0 w))

-- ---- the first bad import

pub one_bad : (files : List FileDesc) (a b : ℕ) (place other : Place) (kind what : Kind) → IsFirstBad files a place kind
    → IsFirstBad files b other what → (a ≡ b) × (place ≡ other) × (kind ≡ what)
one_bad files a b place other kind what first second =
    let before = first.least (b, spot other what) second.among in
    let after = second.least (a, spot place kind) first.among in
    grind (arith, one_spot)
