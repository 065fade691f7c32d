-- What a set says of a file that is written there, beside the descriptor that was written.
use Rattle.std.proofs.Common.{◌≡◌, ◌≢◌, ◌∙◌, sym, ap, ap₂, subst, refl, ℕ, ◌+◌, List, [], ◌∷◌, ◌++◌, map, filter_map, All, Option, None, Some, IsPermutation, arith}
use Rattle.std.proofs.lemmas.List.{map-append}
use Rattle.std.proofs.lemmas.List.Elements.{All-head, All-map, All-tail}
use Rattle.std.proofs.lemmas.List.Sorted.{All-permutation, IsPermutation-append, IsPermutation-map, IsPermutation-refl, IsPermutation-sym}
use Rattle.std.specs.List.{AllZip, cons_option}
use Rattle.proto_base.specs.declared.place.Place.{Place}
use Rattle.proto_desc.specs.DeclaredNames.{Declared, declared_by, file_scope, full_name}
use Rattle.proto_desc.specs.declared.file.FileDesc.{FileDesc}
use Rattle.proto_desc.specs.declared.file.PackageDescriptor.{PackageDescriptor}
use Rattle.proto_links.specs.Imports.{name_of}
use Rattle.proto_names.specs.Occurrences.{Occurrence, declared_occurrence, occurrences_from, occurrences_of, package_occurrence, package_occurrences}
use Rattle.proto_names.specs.Scopes.{prefixes}
use Rattle.proto_sets.specs.Elements.{text_of}
use Rattle.proto_sets.specs.Heads.{package_by}
use Rattle.proto_sets.specs.Says.{AllSay, ExtensionAt, Extended, FieldSays, Inside, Said, extension_by, said_extension, said_occurrence, start}
use Rattle.proto_sets.specs.Sets.{Contents, SaysFile, extensions_from, head_of, names_from}
use Rattle.wire_bytes.specs.Descriptor.{file_desc_bytes}
use Rattle.set_round_trip.specs.ButPlaces.{at_start}
use Rattle.set_round_trip.proofs.Entries.{file_entries, file_name_is, package_is, read_file}
use Rattle.set_round_trip.proofs.Fronts.{read_all}
use Rattle.set_round_trip.proofs.Imports.{import_mark, import_marks, read_marks}
use Rattle.set_round_trip.proofs.Packages.{HasNamedPackage}
use Rattle.set_round_trip.proofs.Saying.{as_said, file_says}

abbrev pub placed_packages : ℕ → Option PackageDescriptor → List Occurrence
placed_packages a p = map at_start (package_occurrences a p)

-- what is read of a file is what its descriptor says, but for places
pub record Agree (desc : FileDesc) (c : Contents) : Type 0 where
  pub name : c.head.name ≡ desc.name
  pub imports : import_marks c.head ≡ import_marks desc
  pub packages : (a : ℕ) → placed_packages a c.head.«package» ≡ placed_packages a desc.«package»
  pub said : IsPermutation c.said (map as_said (declared_by desc))
  pub starts : (a : ℕ) → placed_packages a c.head.«package» ≡ package_occurrences a c.head.«package»

-- ---- packages

pub scope_back : (name : List ℕ) → file_scope (package_by name) ≡ name
scope_back [] = refl
scope_back (c ∷ cs) = refl

same_places : (a : ℕ) (p q : Place) (names : List (List ℕ))
    → map at_start (map (package_occurrence a p) names) ≡ map at_start (map (package_occurrence a q) names)
same_places a p q [] = refl
same_places a p q (n ∷ names) =
    ap (λ (os : List Occurrence). at_start (package_occurrence a p n) ∷ os) (same_places a p q names)

packages_by : (a : ℕ) (place : Place) (name : List ℕ) → name ≢ []
    → placed_packages a (package_by name) ≡ map at_start (map (package_occurrence a place) (prefixes name))
packages_by a place [] some = absurd (some refl)
packages_by a place (c ∷ cs) some = same_places a start place (prefixes (c ∷ cs))

same_packages : (a : ℕ) (p : Option PackageDescriptor) → ((q : PackageDescriptor) → p ≡ Some q → q.name ≢ [])
    → placed_packages a (package_by (file_scope p)) ≡ placed_packages a p
same_packages a None named = refl
same_packages a (Some p) named = packages_by a p.place p.name (named p refl)

all_start : (a : ℕ) (names : List (List ℕ))
    → map at_start (map (package_occurrence a start) names) ≡ map (package_occurrence a start) names
all_start a [] = refl
all_start a (n ∷ names) = ap (λ (os : List Occurrence). package_occurrence a start n ∷ os) (all_start a names)

start_by : (a : ℕ) (name : List ℕ)
    → placed_packages a (package_by name) ≡ package_occurrences a (package_by name)
start_by a [] = refl
start_by a (c ∷ cs) = all_start a (prefixes (c ∷ cs))

-- ---- a file

pub agree : (depth : ℕ) (desc : FileDesc) (c : Contents) → HasNamedPackage desc
    → SaysFile depth (file_desc_bytes desc) c → Agree desc c
agree depth desc c named says =
    let same : says.fields ≡ file_entries desc = read_all (read_file desc) says.row in
    let text : (w : ℕ) → text_of w says.fields ≡ text_of w (file_entries desc) = λ w. ap (text_of w) same in
    let own : c.head.«package» ≡ package_by (file_scope desc.«package») =
    says.of_head.of_package ∙ ap package_by (text 2 ∙ package_is desc) in
    let scope : file_scope c.head.«package» ≡ file_scope desc.«package» =
    ap file_scope own ∙ scope_back (file_scope desc.«package») in
    record {
      name = says.of_head.name ∙ text 1 ∙ file_name_is desc;
      imports = ap (map import_mark) says.of_head.imports ∙ read_marks desc says.fields same;
      packages = λ a. ap (placed_packages a) own ∙ same_packages a desc.«package» named.named;
      starts = λ a. subst (λ p. placed_packages a p ≡ package_occurrences a p) (sym own)
          (start_by a (file_scope desc.«package»));
      said = (file_says depth (file_scope desc.«package») desc).all c.said
          (subst (λ s. AllSay (FieldSays (Inside depth) None s) (file_entries desc) c.said) scope
          (subst (λ fs. AllSay (FieldSays (Inside depth) None (file_scope c.head.«package»)) fs c.said) same says.all));
    }

-- ---- all files

-- what is said at a position, with all places at the start
said_there : (a : ℕ) (ds : List Declared)
    → map at_start (map (said_occurrence a) (map as_said ds)) ≡ map at_start (map (declared_occurrence a) ds)
said_there a [] = refl
said_there a (d ∷ ds) = ap (λ (os : List Occurrence). at_start (declared_occurrence a d) ∷ os) (said_there a ds)

names_agree : (a : ℕ) (desc : FileDesc) (c : Contents) → Agree desc c
    → IsPermutation (map at_start (package_occurrences a c.head.«package» ++ map (said_occurrence a) c.said))
    (map at_start (occurrences_of a desc))
names_agree a desc c is =
    let packages = placed_packages a desc.«package» in
    let declared = map (declared_occurrence a) (declared_by desc) in
    let mine : map at_start (package_occurrences a c.head.«package» ++ map (said_occurrence a) c.said)
    ≡ packages ++ map at_start (map (said_occurrence a) c.said) =
    map-append at_start (package_occurrences a c.head.«package») (map (said_occurrence a) c.said)
    ∙ ap (λ (os : List Occurrence). os ++ map at_start (map (said_occurrence a) c.said)) (is.packages a) in
    let theirs : packages ++ map at_start (map (said_occurrence a) (map as_said (declared_by desc)))
    ≡ map at_start (occurrences_of a desc) =
    ap (λ (os : List Occurrence). packages ++ os) (said_there a (declared_by desc))
    ∙ sym (map-append at_start (package_occurrences a desc.«package») declared) in
    subst (λ os. IsPermutation os (map at_start (occurrences_of a desc))) (sym mine)
    (subst (λ os. IsPermutation (packages ++ map at_start (map (said_occurrence a) c.said)) os) theirs
    (IsPermutation-append packages packages (map at_start (map (said_occurrence a) c.said))
    (map at_start (map (said_occurrence a) (map as_said (declared_by desc)))) (IsPermutation-refl packages)
    (IsPermutation-map at_start (map (said_occurrence a) c.said)
    (map (said_occurrence a) (map as_said (declared_by desc)))
    (IsPermutation-map (said_occurrence a) c.said (map as_said (declared_by desc)) is.said))))

pub all_names : (a : ℕ) (descs : List FileDesc) (cs : List Contents) → AllZip Agree descs cs
    → IsPermutation (map at_start (names_from a cs)) (map at_start (occurrences_from a descs))
all_names a [] [] all = IsPermutation-refl []
all_names a (d ∷ descs) (c ∷ cs) all =
    let own = package_occurrences a c.head.«package» ++ map (said_occurrence a) c.said in
    let rest = names_from (a + 1) cs in
    let others = occurrences_from (a + 1) descs in
    subst (λ os. IsPermutation os (map at_start (occurrences_of a d ++ others))) (sym (map-append at_start own rest))
    (subst (λ os. IsPermutation (map at_start own ++ map at_start rest) os)
    (sym (map-append at_start (occurrences_of a d) others))
    (IsPermutation-append (map at_start own) (map at_start (occurrences_of a d)) (map at_start rest)
    (map at_start others) (names_agree a d c all.0) (all_names (a + 1) descs cs all.1)))
all_names a descs cs all = grind arith

-- ---- what is read stands at the start

said_starts : (a : ℕ) (said : List Said) → All (λ s. s.declared.place ≡ start) said
    → map at_start (map (said_occurrence a) said) ≡ map (said_occurrence a) said
said_starts a [] all = refl
said_starts a (s ∷ said) all =
    let place = All-head (λ (s : Said). s.declared.place ≡ start) s said all in
    let rest = said_starts a said (All-tail (λ (s : Said). s.declared.place ≡ start) s said all) in
    let here : at_start (said_occurrence a s) ≡ said_occurrence a s = λ i. record {
      name = full_name s.declared;
      file = a;
      place = sym place i;
      kind = Some s.declared.kind;
    } in
    ap₂ ◌∷◌ here rest

all_said_start : (desc : FileDesc) (c : Contents) → Agree desc c → All (λ s. s.declared.place ≡ start) c.said
all_said_start desc c is =
    let ds = declared_by desc in
    All-permutation (λ s. s.declared.place ≡ start) (map as_said ds) c.said
    (IsPermutation-sym c.said (map as_said ds) is.said)
    (All-map (λ s. s.declared.place ≡ start) as_said ds (λ k d below. refl))

pub names_start : (a : ℕ) (descs : List FileDesc) (cs : List Contents) → AllZip Agree descs cs
    → map at_start (names_from a cs) ≡ names_from a cs
names_start a [] [] all = refl
names_start a (d ∷ descs) (c ∷ cs) all =
    let packages = package_occurrences a c.head.«package» in
    let said = map (said_occurrence a) c.said in
    let rest = names_from (a + 1) cs in
    map-append at_start (packages ++ said) rest ∙ ap₂ (λ (xs ys : List Occurrence). xs ++ ys)
    (map-append at_start packages said ∙ ap₂ (λ (xs ys : List Occurrence). xs ++ ys) (all.0.starts a)
    (said_starts a c.said (all_said_start d c all.0))) (names_start (a + 1) descs cs all.1)
names_start a descs cs all = grind arith

-- ---- no extensions

none_said : (a : ℕ) (said : List Said) → All (λ s. s.extends ≡ None) said → filter_map (said_extension a) said ≡ []
none_said a [] none = refl
none_said a (s ∷ said) none =
    let rest = none_said a said (All-tail (λ s. s.extends ≡ None) s said none) in
    let here = All-head (λ s. s.extends ≡ None) s said none in
    ap₂ (λ (e : Option Extended) (es : List ExtensionAt). cons_option (extension_by a e) es) here rest

said_none : (desc : FileDesc) (c : Contents) → Agree desc c → All (λ s. s.extends ≡ None) c.said
said_none desc c is =
    let ds = declared_by desc in
    All-permutation (λ s. s.extends ≡ None) (map as_said ds) c.said
    (IsPermutation-sym c.said (map as_said ds) is.said)
    (All-map (λ s. s.extends ≡ None) as_said ds (λ k d below. refl))

pub no_extensions : (a : ℕ) (descs : List FileDesc) (cs : List Contents) → AllZip Agree descs cs
    → extensions_from a cs ≡ []
no_extensions a [] [] all = refl
no_extensions a (d ∷ descs) (c ∷ cs) all =
    ap₂ (λ (xs ys : List ExtensionAt). xs ++ ys) (none_said a c.said (said_none d c all.0))
    (no_extensions (a + 1) descs cs all.1)
no_extensions a descs cs all = grind arith

-- ---- names and imports

pub heads_agree : (descs : List FileDesc) (cs : List Contents) → AllZip Agree descs cs
    → (map name_of (map head_of cs) ≡ map name_of descs)
    × (map import_marks (map head_of cs) ≡ map import_marks descs)
heads_agree [] [] all = (refl, refl)
heads_agree (d ∷ descs) (c ∷ cs) all =
    let (names, imports) = heads_agree descs cs all.1 in (ap₂ ◌∷◌ all.0.name names, ap₂ ◌∷◌ all.0.imports imports)
heads_agree descs cs all = grind arith
