-- Names that are the keys of a set, in their order.
use Rattle.std.proofs.Common.{◌≡◌, ◌∙◌, ap, arith, refl, ℕ, ◌+◌, ◌<◌, List, [], ◌∷◌, get_or, length, map, nat_cmp}
use Rattle.std.specs.Cmp.Lexicographic.{slice_cmp}
use Rattle.std.specs.List.Sorted.{IsStrictlySortedBy}
use Rattle.std.proofs.lemmas.List.{get_or-map, length-map}
use Rattle.std.proofs.lemmas.Map.Keys.{Less-from_sorted}
use Rattle.proto_base.specs.NameOrder.{NamesRise}
use denote.Ref.{Bor}
use Rattle.proto_base.proofs.Sets.{text_cmp}

abbrev pub text_of : Bor (List ℕ) → List ℕ
text_of name = name.now

no_neighbours : (k : ℕ) → k + 1 < 0 → ⊥
no_neighbours k h = omega arith

-- names that are strictly sorted rise
pub rising_keys : (names : List (Bor (List ℕ))) → IsStrictlySortedBy text_cmp names → NamesRise (map text_of names)
rising_keys [] sorted k h = absurd (no_neighbours k h)
rising_keys (n ∷ names) sorted k h =
    let all : List (Bor (List ℕ)) = n ∷ names in
    let inside : k + 1 < length all = omega (arith, h, length-map all text_of) in
    ap (λ a. slice_cmp nat_cmp a (get_or (map text_of all) (k + 1) []))
    (get_or-map text_of all k n [] (omega (arith, inside)))
    ∙ ap (λ b. slice_cmp nat_cmp (text_of (get_or all k n)) b) (get_or-map text_of all (k + 1) n [] inside)
    ∙ Less-from_sorted text_cmp all k (k + 1) n sorted (omega arith) inside

-- what references to references of names lead to
pub twice_now : (names : List (Bor (Bor (List ℕ))))
    → map (λ name. name.now.now) names ≡ map text_of (map (λ name. name.now) names)
twice_now [] = refl
twice_now (n ∷ names) = ap (λ rest. n.now.now ∷ rest) (twice_now names)
