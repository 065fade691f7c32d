-- The files of a set that is written are read as they are.
use Rattle.std.proofs.Common.{◌≡◌, ◌∙◌, sym, ap, refl, ℕ, ◌<◌, ◌↔◌, inl, inr, List, [], ◌∷◌, length, get_or, map, filter_map, All, Contains, arith, Less, nat_cmp, subst}
use Rattle.std.proofs.lemmas.Cmp.{nat_list_cmp_total}
use Rattle.std.proofs.lemmas.List.{get_or-map, length-map}
use Rattle.std.proofs.lemmas.List.Elements.{All-contains, Contains-get_or}
use Rattle.std.proofs.lemmas.List.Sorted.{Contains-permutation, IsPermutation-sym}
use Rattle.std.specs.Cmp.Lexicographic.{slice_cmp}
use Rattle.std.specs.List.{AllZip}
use Rattle.proto_base.specs.NameOrder.{NamesRise}
use Rattle.proto_base.specs.declared.limits.Limits.{Limits}
use Rattle.proto_compilation.specs.Compilation.{CompiledFile, bytes_at, file_bytes, file_name, set_of}
use Rattle.proto_desc.specs.declared.file.FileDesc.{FileDesc}
use Rattle.proto_links.proofs.NameRows.{not_less_itself}
use Rattle.proto_links.proofs.Rising.{IsStrict, Rises, front_or_behind, none_in, one_rising}
use Rattle.proto_links.specs.Imports.{name_of}
use Rattle.proto_links.specs.Linked.{Linked}
use Rattle.proto_sets.specs.Elements.{text_in, text_of}
use Rattle.proto_sets.specs.Sets.{AreByName, AreTexts, HasName, IsNamedFile}
use Rattle.proto_sets.proofs.Sorting.{name_is}
use Rattle.share_work.proofs.Sums.{in_map, of_map}
use Rattle.wire_bytes.specs.Descriptor.{file_desc_bytes}
use Rattle.wire_format.specs.Reading.{IsRow}
use Rattle.set_round_trip.proofs.Entries.{each_text, file_name_is, read_file}
use Rattle.set_round_trip.proofs.Fronts.{read_all, read_each}

-- a file with the name and the bytes of a descriptor
pub record IsFileOf (file : CompiledFile) (desc : FileDesc) : Type 0 where
  pub name : file.name ≡ desc.name
  pub bytes : file.bytes ≡ file_desc_bytes desc

pub files_of : (files : List CompiledFile) (descs : List FileDesc) → map file_name files ≡ map name_of descs
    → map file_bytes files ≡ map file_desc_bytes descs → AllZip IsFileOf files descs
files_of [] [] names bytes = tt
files_of (f ∷ files) (d ∷ descs) names bytes =
    let name : f.name ≡ d.name = cc in
    let text : f.bytes ≡ file_desc_bytes d = cc in
    (record { name = name; bytes = text }, files_of files descs (cc) (cc))
files_of files descs names bytes = let n = ap length names in absurd (omega (arith, n))

pub of_file : (files : List CompiledFile) (descs : List FileDesc) → AllZip IsFileOf files descs → (f : CompiledFile)
    → Contains files f → (d : FileDesc) × IsFileOf f d
of_file [] [] all f has = absurd (none_in f has)
of_file (g ∷ files) (d ∷ descs) all f has = elim (front_or_behind g files f has) [
  | inl here ↦ (d, subst (λ (x : CompiledFile). IsFileOf x d) here all.0)
  | inr there ↦ of_file files descs all.1 f there
]
of_file files descs all f has = grind arith

-- ---- bytes that are read as a file are those of one of the files

-- the name that is read in the bytes of a descriptor
read_name : (desc : FileDesc) (text name : List ℕ) → text ≡ file_desc_bytes desc → HasName text name → name ≡ desc.name
read_name desc text name same has =
    let all = read_all (read_file desc) (subst (λ t. IsRow t has.fields) same has.row) in
    has.is ∙ ap (text_of 1) all ∙ file_name_is desc

same_file : (f g : CompiledFile) (desc : FileDesc) → IsNamedFile f → IsFileOf g desc → file_bytes f ≡ file_bytes g
    → f ≡ g
same_file f g desc named is bytes =
    let name = read_name desc f.bytes f.name (bytes ∙ is.bytes) named.has ∙ sym is.name in
    λ i. record { name = name i; bytes = bytes i }

-- what a set of these files is read as
read_set : (files : List CompiledFile) (links : Linked) (texts : List (List ℕ)) → AreTexts (set_of files links) texts
    → texts ≡ map (bytes_at files) links.set_order
read_set files links texts (fields, row, is) =
    is ∙ ap (λ fs. filter_map (text_in 1) fs) (read_all (read_each 1 (bytes_at files) links.set_order) row)
    ∙ (each_text 1 (bytes_at files) links.set_order refl).is

module _ (files : List CompiledFile) (descs : List FileDesc) (are : AllZip IsFileOf files descs) (links : Linked)
    (every : (a : ℕ) → Contains links.set_order a ↔ (a < length files)) (placed : List CompiledFile)
    (named : All IsNamedFile placed) (texts : AreTexts (set_of files links) (map file_bytes placed)) where
  order : map file_bytes placed ≡ map (bytes_at files) links.set_order
  order = read_set files links (map file_bytes placed) texts

  one_of : (f g : CompiledFile) → Contains placed f → Contains files g → file_bytes f ≡ file_bytes g → f ≡ g
  one_of f g has there bytes =
      let (desc, is) = of_file files descs are g there in
      same_file f g desc (All-contains IsNamedFile placed f named has) is bytes

  placed_to : (f : CompiledFile) → Contains placed f → Contains files f
  placed_to f has =
      let (a, at, bytes) = of_map (bytes_at files) links.set_order (file_bytes f)
      (subst (λ ts. Contains ts (file_bytes f)) order (in_map file_bytes placed f has)) in
      let below = (every a).0 at in
      let g = get_or files a f in
      let there = Contains-get_or files a f below in
      let same : file_bytes f ≡ file_bytes g = sym bytes ∙ get_or-map file_bytes files a f [] below in
      subst (λ x. Contains files x) (sym (one_of f g has there same)) there

  placed_from : (g : CompiledFile) → Contains files g → Contains placed g
  placed_from g (a, below, is) =
      let (f, has, bytes) = of_map file_bytes placed (bytes_at files a)
      (subst (λ ts. Contains ts (bytes_at files a)) (sym order)
      (in_map (bytes_at files) links.set_order a ((every a).1 below))) in
      let same : file_bytes f ≡ file_bytes g =
      bytes ∙ get_or-map file_bytes files a g [] below ∙ ap file_bytes is in
      subst (λ x. Contains placed x) (one_of f g has (a, below, is) same) has

-- ---- in one order

abbrev IsNameBefore : CompiledFile → CompiledFile → Type 0
IsNameBefore a b = slice_cmp nat_cmp (file_name a) (file_name b) ≡ Less

names_strict : IsStrict IsNameBefore
names_strict = grind (arith, nat_list_cmp_total, not_less_itself)

files_rise : (files : List CompiledFile) → NamesRise (map file_name files) → Rises IsNameBefore files
files_rise files up k d h = grind (arith, length-map, name_is)

pub same_files : (limits : Limits) (files : List CompiledFile) (descs : List FileDesc) → AllZip IsFileOf files descs
    → NamesRise (map file_name files) → (links : Linked)
    → ((a : ℕ) → Contains links.set_order a ↔ (a < length files)) → (read : List CompiledFile)
    → AreByName limits (set_of files links) read → files ≡ read
same_files limits files descs are rises links every read is =
    let placed = is.placed in
    one_rising IsNameBefore names_strict files read (files_rise files rises) (files_rise read is.rises)
    (λ f has. Contains-permutation placed read f is.all
    (placed_from files descs are links every placed is.are.each is.are.texts f has))
    (λ f has. placed_to files descs are links every placed is.are.each is.are.texts f
    (Contains-permutation read placed f (IsPermutation-sym placed read is.all) has))
