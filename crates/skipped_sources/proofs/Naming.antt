-- Sets of names.
use Rattle.std.proofs.Common.{◌≡◌, ◌∙◌, sym, ap, ℕ, ◌+◌, ◌<◌, ◌||◌, Bool, true, cond, List, [], ◌∷◌, ◌++◌, get_or, length, take, arith}
use Rattle.std.specs.BTreeSet.{BTreeSet, Updates}
use Rattle.std.specs.Str.{bytes_eq}
use Rattle.std.proofs.lemmas.Bool.{cases_Bool}
use Rattle.std.proofs.lemmas.List.{map_more}
use Rattle.std.proofs.lemmas.Map.Text.{is_eq-slice_cmp}
use Rattle.std.proofs.lemmas.Slice.Eq.{bytes_eq-Decides}
use Rattle.std.specs.Ordering.{is_eq}
use denote.Ref.{Bor}
use Rattle.proto_base.proofs.Sets.{text_cmp}
use Rattle.proto_syntax.specs.Grammar.{among}
use Rattle.source_folder.specs.Folder.{name_of, names_of}
use Rattle.source_folder.specs.declared.folder.NamedText.{NamedText}
use Rattle.skipped_sources.specs.Losing.{HoldsNames}

among-push : (name : List ℕ) (names : List (List ℕ)) (last : List ℕ)
    → among name (names ++ last ∷ []) ≡ (among name names || bytes_eq name last)
among-push name [] last = grind arith
among-push name (n ∷ names) last = grind (arith, among-push name names last)

bytes_turned : (a b : List ℕ) → bytes_eq a b ≡ bytes_eq b a
bytes_turned a b = grind (arith, bytes_eq-Decides a b, bytes_eq-Decides b a, cases_Bool)

or_turned : (a b : Bool) → cond a true b ≡ (b || a)
or_turned a b = grind arith

-- one more name
pub names_more : (sources : List NamedText) (n : ℕ) (x : NamedText) (key : Bor (List ℕ))
    (old new : BTreeSet (Bor (List ℕ))) → n < length sources → x ≡ get_or sources n x → key.now ≡ name_of x
    → Updates text_cmp old new key true → HoldsNames (names_of (take n sources)) old
    → HoldsNames (names_of (take (n + 1) sources)) new
names_more sources n x key old new inside is same updates before name =
    let q : Bor (List ℕ) = record key { now = name } in
    let added = updates.0 q in
    let longer : names_of (take (n + 1) sources) ≡ names_of (take n sources) ++ name_of x ∷ [] =
    map_more name_of sources n x inside
    ∙ ap (λ (s : NamedText). names_of (take n sources) ++ name_of s ∷ []) (sym is) in
    let tested : is_eq (text_cmp key q) ≡ bytes_eq name (name_of x) =
    is_eq-slice_cmp key.now name ∙ bytes_turned key.now name ∙ ap (bytes_eq name) same in
    added ∙ rw (tested, before name, longer, among-push name (names_of (take n sources)) (name_of x))
    (or_turned (bytes_eq name (name_of x)) (among name (names_of (take n sources))))
