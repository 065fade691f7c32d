-- The extensions of files: how many, in which files; and that their table is one.
use Rattle.std.proofs.Common.{◌≡◌, ◌∙◌, ap, ℕ, ◌+◌, ◌<◌, ◌≤◌, inl, inr, List, [], ◌∷◌, ◌++◌, length, map, refl, sym, arith, Contains, Option, Some, None, length-append}
use Rattle.std.specs.List.{cons_option, filter_map}
use Rattle.std.proofs.lemmas.List.{length-map}
use Rattle.std.proofs.lemmas.List.Elements.{Contains-append_cases}
use Rattle.proto_compilation.proofs.Rising.{one_extension}
use Rattle.proto_compilation.specs.Extensions.{DeclaredExtension, Precedes}
use Rattle.proto_compilation.specs.Sound.{IsExtensionWithin}
use Rattle.proto_links.proofs.Rising.{IsStrict, front_or_behind, none_in, one_rising}
use Rattle.proto_names.specs.Occurrences.{package_occurrences}
use Rattle.proto_sets.specs.Extensions.{AreTabled}
use Rattle.proto_sets.specs.Says.{Extended, ExtensionAt, Said, extension_by, said_extension, said_occurrence}
use Rattle.proto_sets.specs.Sets.{Contents, extensions_from, names_from}
use Rattle.proto_sets.proofs.Tables.{far, itself}

-- ---- how many

fewer_said : (file : ℕ) (o : Option Extended) (rest : List ExtensionAt) (n : ℕ) → length rest ≤ n
    → length (cons_option (extension_by file o) rest) ≤ n + 1
fewer_said file None rest n h = omega (arith, h)
fewer_said file (Some e) rest n h = omega (arith, h)

fewer_in : (file : ℕ) (ss : List Said) → length (filter_map (said_extension file) ss) ≤ length ss
fewer_in file [] = omega arith
fewer_in file (s ∷ ss) =
    let more = fewer_said file s.extends (filter_map (said_extension file) ss) (length ss) (fewer_in file ss) in
    omega (arith, more)

-- no more than names
pub fewer : (first : ℕ) (cs : List Contents) → length (extensions_from first cs) ≤ length (names_from first cs)
fewer first [] = omega arith
fewer first (c ∷ cs) =
    let own = filter_map (said_extension first) c.said in
    let packages = package_occurrences first c.head.«package» in
    let names = map (said_occurrence first) c.said in
    let rest = names_from (first + 1) cs in
    let so : length (own ++ extensions_from (first + 1) cs) ≤ length ((packages ++ names) ++ rest) = omega (
      arith,
      fewer_in first c.said,
      fewer (first + 1) cs,
      length-append own (extensions_from (first + 1) cs),
      length-append (packages ++ names) rest,
      length-append packages names,
      length-map c.said (said_occurrence first),
    ) in
    so

-- ---- in which files

file_said : (file : ℕ) (o : Option Extended) (rest : List ExtensionAt) (e : ExtensionAt)
    → (Contains rest e → e.file ≡ file) → Contains (cons_option (extension_by file o) rest) e → e.file ≡ file
file_said file None rest e behind w = behind w
file_said file (Some x) rest e behind w = elim (front_or_behind _ rest e w) [
  | inl same ↦ rw (sym same) refl
  | inr later ↦ behind later
]

file_in : (file : ℕ) (ss : List Said) (e : ExtensionAt) → Contains (filter_map (said_extension file) ss) e
    → e.file ≡ file
file_in file [] e w = absurd (none_in e w)
file_in file (s ∷ ss) e w =
    file_said file s.extends (filter_map (said_extension file) ss) e (λ v. file_in file ss e v) w

inside : (first : ℕ) (cs : List Contents) (e : ExtensionAt) → Contains (extensions_from first cs) e
    → e.file < first + length cs
inside first [] e w = absurd (none_in e w)
inside first (c ∷ cs) e w =
    elim (Contains-append_cases (filter_map (said_extension first) c.said) (extensions_from (first + 1) cs) e w) [
      | inl own ↦ omega (arith, file_in first c.said e own)
      | inr later ↦ omega (arith, inside (first + 1) cs e later)
    ]

pub tabled_inside : (cs : List Contents) (table : List DeclaredExtension) → AreTabled (extensions_from 0 cs) table
    → (d : DeclaredExtension) → Contains table d → IsExtensionWithin (length cs) d
tabled_inside cs table are d has =
    let (e, among, is) = are.each d has in
    record { inside = omega (arith, inside 0 cs e among, is.file); small = is.small }

-- ---- one table

strict : IsStrict Precedes
strict = record { never = itself; trans = far }

same : (d f : DeclaredExtension) → d.message ≡ f.message → d.number ≡ f.number → d.file ≡ f.file → d ≡ f
same d f message number file = grind (arith, message, number, file)

module _ (es : List ExtensionAt) (one other : List DeclaredExtension) (first : AreTabled es one)
    (second : AreTabled es other) where
  -- what one table has, the other one has
  over : (d : DeclaredExtension) → Contains one d → Contains other d
  over d has =
      let (f, there, number, early) = second.all d (first.each d has) in
      let (g, here, again, earlier) = first.all f (second.each f there) in
      let back : g ≡ d = one_extension one first.rise g d here has (again.0 ∙ number.0) (again.1 ∙ number.1) in
      let is : f ≡ d = same f d number.0 number.1 (omega (arith, early, earlier, ap (λ (x : DeclaredExtension). x.file) back)) in
      rw is at there

pub one_table : (es : List ExtensionAt) (one other : List DeclaredExtension) → AreTabled es one → AreTabled es other
    → one ≡ other
one_table es one other first second =
    one_rising Precedes strict one other (λ k d h. first.rise k (k + 1) d (omega arith) h)
    (λ k d h. second.rise k (k + 1) d (omega arith) h) (over es one other first second) (over es other one second first)
