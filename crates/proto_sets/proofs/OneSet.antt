-- A set has one list of files, and each of them says one thing.
use Rattle.std.proofs.Common.{◌≡◌, ◌∙◌, sym, ap, ap₂, subst, ℕ, zero, suc, List, [], ◌∷◌, length, get_or, map, refl, arith, All, None, IsPermutation}
use Rattle.std.proofs.lemmas.List.Sorted.{All-permutation}
use Rattle.std.specs.List.{AllZip, filter_map}
use Rattle.proto_base.specs.Sets.{StandsAt}
use Rattle.proto_base.specs.declared.limits.Limits.{Limits}
use Rattle.proto_compilation.specs.Compilation.{CompiledFile, file_bytes, file_name}
use Rattle.proto_desc.specs.DeclaredNames.{file_scope}
use Rattle.proto_desc.specs.declared.file.FileDesc.{FileDesc}
use Rattle.proto_links.specs.Imports as imports
use Rattle.wire_format.proofs.ReadingRows.{one_list}
use Rattle.wire_format.specs.Reading.{Value}
use Rattle.proto_sets.specs.Elements.{text_in, text_of}
use Rattle.proto_sets.specs.Heads.{IsHead}
use Rattle.proto_sets.specs.SetFaults.{name_at}
use Rattle.proto_sets.specs.Sets.{AreByName, AreFilesIn, AreTexts, Contents, FileSays, HasName, IsNamedFile, SaysFile, SetSays, depth_of, head_of}
use Rattle.proto_sets.proofs.Sorting.{one_order}
use Rattle.proto_sets.proofs.Unique.{said_once}

-- ---- texts and names

pub one_texts : {set : List ℕ} {ts us : List (List ℕ)} → AreTexts set ts → AreTexts set us → ts ≡ us
one_texts {set = set} (fields, row, is) (others, row', is') =
    is ∙ ap (λ (fs : List (ℕ × Value)). filter_map (text_in 1) fs) (one_list set fields others row row') ∙ sym is'

pub one_name : {text m n : List ℕ} → HasName text m → HasName text n → m ≡ n
one_name {text = text} first second =
    first.is ∙ ap (text_of 1) (one_list text first.fields second.fields first.row second.row) ∙ sym second.is

-- ---- files

same_file : (f g : CompiledFile) → file_name f ≡ file_name g → file_bytes f ≡ file_bytes g → f ≡ g
same_file f g name bytes = λ i. record { name = name i; bytes = bytes i }

rest_of : (f : CompiledFile) (fs : List CompiledFile) → All IsNamedFile (f ∷ fs) → All IsNamedFile fs
rest_of f fs all k d h = all (suc k) d (omega (arith, h))

pub one_row : (fs gs : List CompiledFile) → map file_bytes fs ≡ map file_bytes gs → All IsNamedFile fs
    → All IsNamedFile gs → fs ≡ gs
one_row [] [] bytes all also = refl
one_row (f ∷ fs) (g ∷ gs) bytes all also =
    let same : file_bytes f ≡ file_bytes g = cc in
    let rest : map file_bytes fs ≡ map file_bytes gs = cc in
    let name = one_name (rw same at (all 0 f (omega arith)).has) (also 0 g (omega arith)).has in
    ap₂ ◌∷◌ (same_file f g name same) (one_row fs gs rest (rest_of f fs all) (rest_of g gs also))
one_row [] (g ∷ gs) bytes all also = absurd (omega (arith, ap length bytes))
one_row (f ∷ fs) [] bytes all also = absurd (omega (arith, ap length bytes))

module _ {limits : Limits} {set : List ℕ} where
  pub one_placed : {fs gs : List CompiledFile} → AreFilesIn limits set fs → AreFilesIn limits set gs → fs ≡ gs
  one_placed {fs = fs} {gs = gs} first second =
      one_row fs gs (one_texts first.texts second.texts) first.each second.each

  pub one_by_name : {fs gs : List CompiledFile} → AreByName limits set fs → AreByName limits set gs → fs ≡ gs
  one_by_name {fs = fs} {gs = gs} first second =
      one_order second.placed fs gs (subst (λ p. IsPermutation p fs) (one_placed first.are second.are) first.all)
      first.rises second.all second.rises

-- ---- what they say

one_head : (fields : List (ℕ × Value)) (head other : FileDesc) → IsHead fields head → IsHead fields other
    → head ≡ other
one_head fields head other is too =
    let name = is.name ∙ sym too.name in
    let own = is.of_package ∙ sym too.of_package in
    let imports = is.imports ∙ sym too.imports in
    let messages = is.no_message ∙ sym too.no_message in
    let enums = is.no_enum ∙ sym too.no_enum in
    let services = is.no_service ∙ sym too.no_service in
    let options = is.no_option ∙ sym too.no_option in
    λ i. record {
      name = name i;
      «package» = own i;
      imports = imports i;
      messages = messages i;
      enums = enums i;
      services = services i;
      options = options i;
    }

pub one_contents : (depth : ℕ) (text : List ℕ) (c d : Contents) → SaysFile depth text c → SaysFile depth text d → c ≡ d
one_contents depth text c d is too =
    let same = one_list text is.fields too.fields is.row too.row in
    let head = one_head too.fields c.head d.head (subst (λ fs. IsHead fs c.head) same is.of_head) too.of_head in
    let scope = ap (λ (h : FileDesc). file_scope h.«package») head in
    let said = said_once depth None (file_scope d.head.«package») too.fields c.said d.said
    (rw (same, scope) at is.all) too.all in
    λ i. record { head = head i; said = said i }

one_zip : {X Y : Type 0} (R : X → Y → Type 0) → ((x : X) (y z : Y) → R x y → R x z → y ≡ z) → (xs : List X)
    (ys zs : List Y) → AllZip R xs ys → AllZip R xs zs → ys ≡ zs
one_zip R one [] [] [] first second = refl
one_zip R one (x ∷ xs) (y ∷ ys) (z ∷ zs) first second = grind (arith, one_zip R one xs ys zs first.1 second.1)
one_zip R one xs ys zs first second = grind (arith)

pub one_saying : {limits : Limits} {set : List ℕ} {fs gs : List CompiledFile} {cs ds : List Contents}
    → SetSays limits set fs cs → SetSays limits set gs ds → (fs ≡ gs) × (cs ≡ ds)
one_saying {limits = limits} {fs = fs} {gs = gs} {cs = cs} {ds = ds} first second =
    let same = one_by_name first.by_name second.by_name in
    let depth = depth_of limits in (
      same,
      one_zip (FileSays depth) (λ f c d. one_contents depth f.bytes c d) gs cs ds
          (subst (λ xs. AllZip (FileSays depth) xs cs) same first.each) second.each,
    )

-- ---- heads

-- as many contents as files, whose heads have their names
pub zipped_heads : (depth : ℕ) (fs : List CompiledFile) (cs : List Contents) → All IsNamedFile fs
    → AllZip (FileSays depth) fs cs
    → (length fs ≡ length cs) × (map file_name fs ≡ map imports.name_of (map head_of cs))
zipped_heads depth [] [] all each = (refl, refl)
zipped_heads depth (f ∷ fs) (c ∷ cs) all each =
    let (size, names) = zipped_heads depth fs cs (rest_of f fs all) each.1 in
    let has = (all 0 f (omega arith)).has in
    let name : f.name ≡ c.head.name = has.is
    ∙ ap (text_of 1) (one_list f.bytes has.fields each.0.fields has.row each.0.row) ∙ sym each.0.of_head.name in
    (ap suc size, ap₂ ◌∷◌ name names)
zipped_heads depth fs cs all each = absurd each

pub zipped_at : {X Y : Type 0} (R : X → Y → Type 0) (xs : List X) (ys : List Y) (k : ℕ) (x : X) → AllZip R xs ys
    → StandsAt xs k x → (y : Y) × R x y
zipped_at R [] ys k x all at = absurd (omega (arith, at.0))
zipped_at R (a ∷ xs) [] k x all at = absurd all
zipped_at R (a ∷ xs) (b ∷ ys) zero x all at = (b, rw (← at.1) all.0)
zipped_at R (a ∷ xs) (b ∷ ys) (suc k) x all at = zipped_at R xs ys k x all.1 (omega (arith, at.0), at.1)

pub named_each : {limits : Limits} {set : List ℕ} {fs : List CompiledFile} → AreByName limits set fs
    → All IsNamedFile fs
named_each {fs = fs} is = All-permutation IsNamedFile is.placed fs is.all is.are.each

-- the head of a file has its name
pub head_name : {limits : Limits} {set : List ℕ} {files : List CompiledFile} {contents : List Contents}
    → SetSays limits set files contents → (heads : List FileDesc) → heads ≡ map head_of contents → (a : ℕ)
    → imports.name_at heads a ≡ name_at files a
head_name {limits = limits} {files = files} {contents = contents} says heads same a =
    rw same (ap (λ (names : List (List ℕ)). get_or names a [])
    (sym (zipped_heads (depth_of limits) files contents (named_each says.by_name) says.each).1))
