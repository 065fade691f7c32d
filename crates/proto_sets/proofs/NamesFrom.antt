-- The names in files: their files do not fall.
use Rattle.std.proofs.Common.{◌≡◌, ℕ, ◌+◌, ◌-◌, ◌<◌, ◌≤◌, List, [], ◌∷◌, ◌++◌, length, map, refl, arith, inl, inr, get_or, All, Option, Some, None}
use Rattle.std.proofs.lemmas.Bool.{cases_lt}
use Rattle.std.proofs.lemmas.List.{get_or_append_left, get_or-append_right}
use Rattle.std.proofs.lemmas.List.Elements.{All-append, All-map, All-nil}
use Rattle.std.proofs.Common.{length-append}
use Rattle.proto_desc.specs.declared.file.PackageDescriptor.{PackageDescriptor}
use Rattle.proto_names.specs.Occurrences.{Occurrence, package_occurrence, package_occurrences}
use Rattle.proto_names.specs.Scopes.{prefixes}
use Rattle.proto_sets.specs.Says.{said_occurrence}
use Rattle.proto_sets.specs.Sets.{Contents, names_from}

-- what occurs in one file
abbrev pub names_of : ℕ → Contents → List Occurrence
names_of file c = package_occurrences file c.head.«package» ++ map (said_occurrence file) c.said

packages_in : (P : Occurrence → Type 0) (file : ℕ) (declared : Option PackageDescriptor)
    → ((o : Occurrence) → o.file ≡ file → P o) → All P (package_occurrences file declared)
packages_in P file None holds = All-nil P
packages_in P file (Some p) holds =
    All-map P (package_occurrence file p.place) (prefixes p.name) (λ k d h. holds _ refl)

pub names_in : (P : Occurrence → Type 0) (file : ℕ) (c : Contents) → ((o : Occurrence) → o.file ≡ file → P o)
    → All P (names_of file c)
names_in P file c holds =
    All-append P (package_occurrences file c.head.«package») (map (said_occurrence file) c.said)
    (packages_in P file c.head.«package» holds) (All-map P (said_occurrence file) c.said (λ k d h. holds _ refl))

-- each is one of the files from the first on
pub names_inside : (first : ℕ) (cs : List Contents)
    → All (λ (o : Occurrence). (first ≤ o.file) × (o.file < first + length cs)) (names_from first cs)
names_inside first [] = All-nil _
names_inside first (c ∷ cs) =
    let P : Occurrence → Type 0 = λ o. (first ≤ o.file) × (o.file < first + length (c ∷ cs)) in
    All-append P (names_of first c) (names_from (first + 1) cs)
    (names_in P first c (λ o same. (omega (arith, same), omega (arith, same))))
    (λ k d h. let w = names_inside (first + 1) cs k d h in (omega (arith, w), omega (arith, w)))

pub files_rise : (first : ℕ) (cs : List Contents) (i j : ℕ) (d : Occurrence) → i ≤ j → j < length (names_from first cs)
    → (get_or (names_from first cs) i d).file ≤ (get_or (names_from first cs) j d).file
files_rise first [] i j d most below = omega (arith, below)
files_rise first (c ∷ cs) i j d most below =
    let own = names_of first c in
    let rest = names_from (first + 1) cs in
    let all = names_inside first (c ∷ cs) in
    let size = length-append own rest in
    elim (cases_lt i (length own)) [
      | inl inside ↦ (
          let here : (get_or own i d).file ≡ first = names_in (λ o. o.file ≡ first) first c (λ o same. same) i d inside in
          let same : get_or (own ++ rest) i d ≡ get_or own i d = get_or_append_left own rest d i inside in
          let there = (all j d below).0 in
          rw (same, here) there)
      | inr past ↦ (
          let left : get_or (own ++ rest) i d ≡ get_or rest (i - length own) d =
          get_or-append_right own rest (length own) i d refl past in
          let right : get_or (own ++ rest) j d ≡ get_or rest (j - length own) d =
          get_or-append_right own rest (length own) j d refl (omega (arith, past, most)) in
          rw (left, right) (files_rise (first + 1) cs (i - length own) (j - length own) d (omega (arith, most, past))
          (omega (arith, below, size, most, past))))
    ]
