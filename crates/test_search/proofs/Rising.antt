-- Sources whose names were found to rise.
use Rattle.std.proofs.Common.{◌≡◌, ◌∙◌, ap, refl, ◌+◌, ◌<◌, List, [], ◌∷◌, Bool, true, get_or, length, arith, Ordering, Less, Equal, Greater, is_lt, nat_cmp, true≢false}
use Rattle.std.specs.Cmp.Lexicographic.{slice_cmp}
use Rattle.std.specs.List.{AllAdjacentBelow}
use Rattle.std.proofs.lemmas.List.{get_or-map, length-map}
use Rattle.source_folder.specs.Folder.{name_of, names_of}
use Rattle.proto_base.specs.NameOrder.{NamesRise}
use Rattle.source_folder.specs.declared.folder.NamedText.{NamedText}

abbrev pub is_before : NamedText → NamedText → Bool
is_before a b = is_lt (slice_cmp nat_cmp (name_of a) (name_of b))

less_of : (o : Ordering) → true ≡ is_lt o → o ≡ Less
less_of Less e = refl
less_of Equal e = absurd (true≢false e)
less_of Greater e = absurd (true≢false e)

pub rises : (texts : List NamedText) → AllAdjacentBelow (λ a b. true ≡ is_before a b) texts (length texts)
    → NamesRise (names_of texts)
rises [] all k h = absurd (omega (arith, h))
rises (t ∷ texts) all k h =
    let inside : k + 1 < length (t ∷ texts) = omega (arith, h, length-map (t ∷ texts) name_of) in
    ap (λ xs. slice_cmp nat_cmp xs (get_or (names_of (t ∷ texts)) (k + 1) []))
    (get_or-map name_of (t ∷ texts) k t [] (omega (arith, inside)))
    ∙ ap (λ ys. slice_cmp nat_cmp (name_of (get_or (t ∷ texts) k t)) ys)
    (get_or-map name_of (t ∷ texts) (k + 1) t [] inside)
    ∙ less_of (slice_cmp nat_cmp (name_of (get_or (t ∷ texts) k t)) (name_of (get_or (t ∷ texts) (k + 1) t)))
    (all k t inside)
