-- Sources describe one list of files, of their names, and its types resolve to one list.
use Rattle.proto_compile.proofs.Common.{add-zero, ◌≡◌, ◌∙◌, sym, ℕ, zero, suc, ◌+◌, ◌<◌, ◌≤◌, List, [], ◌∷◌, length, get_or, refl, arith, ◌↔◌, map, ap, Contains, AllZip, get_or_default, get_or_past, length-map, Contains-permutation, IsPermutation-refl, StandsAt, Spot, file_scope, FileDesc, AreLinked, Linked, Index, Indexes, Occurrence, occurrences, ContainsBoth, IsTwice, Limits, AreResolved, AreTypedFrom, IsAnalysed, TypesAt, TypesBreakAt, Describe, SourceDescribes, AreDescribed, text_of, Source, cases_lt, Kind, Place}
use Rattle.proto_links.specs.Visible.{Sees}
use Rattle.proto_names.proofs.Built.{below_files, below_from}
use Rattle.proto_names.proofs.Unique.{alike_back}
use Rattle.proto_names.specs.Resolution.{SeenBy}
use Rattle.proto_names.specs.SeenAlike.{AreSeenAlike}
use Rattle.proto_types.proofs.Unique.{breaks_alike, file_same}
use Rattle.proto_types.specs.References.{TypesBreak}
use Rattle.proto_compile.specs.Sources.{name_of}
use Rattle.proto_file.proofs.OneLocal.{one_descriptor}
use Rattle.proto_compile.proofs.Sorting.{first_of, moved, one_order}
use Rattle.std.proofs.lemmas.Slice.Zip.{AllZip-long}
use Rattle.proto_links.proofs.Rising.{none_in}
use Rattle.proto_links.specs.Imports as imports
use Rattle.std.proofs.lemmas.Option.{get_or_from_slice_get, slice_get_within}
use Rattle.proto_names.specs.Repeated.{IsRepeated}

-- ---- what stands at a position of a list

pub standing_one : {X : Type 0} (xs : List X) (k : ℕ) (x y : X) → k < length xs → get_or xs k x ≡ x
    → get_or xs k y ≡ y → x ≡ y
standing_one xs k x y h at also = sym at ∙ get_or_default xs k x y h ∙ also

pub item_at : {X : Type 0} (xs : List X) (k : ℕ) → k < length xs → (x : X) × StandsAt xs k x
item_at xs k h = let d = first_of xs k h in (get_or xs k d, (h, get_or_default xs k (get_or xs k d) d h))

pub zipped_at : {X Y : Type 0} (R : X → Y → Type 0) (xs : List X) (ys : List Y) (k : ℕ) (x : X) → AllZip R xs ys
    → StandsAt xs k x → (y : Y) × R x y
zipped_at R [] ys k x all at = absurd (omega (arith, at.0))
zipped_at R (a ∷ xs) [] k x all at = absurd all
zipped_at R (a ∷ xs) (b ∷ ys) zero x all at = (b, rw (← at.1) all.0)
zipped_at R (a ∷ xs) (b ∷ ys) (suc k) x all at = zipped_at R xs ys k x all.1 (omega (arith, at.0), at.1)

-- ---- descriptions

one_zip : {X Y : Type 0} (R : X → Y → Type 0) → ((x : X) (y z : Y) → R x y → R x z → y ≡ z) → (xs : List X)
    (ys zs : List Y) → AllZip R xs ys → AllZip R xs zs → ys ≡ zs
one_zip R one [] [] [] first second = refl
one_zip R one (x ∷ xs) (y ∷ ys) (z ∷ zs) first second = grind (arith, one_zip R one xs ys zs first.1 second.1)
one_zip R one xs ys zs first second = grind (arith)

module _ {limits : Limits} {sources : List Source} where
  abbrev pub as_described : {files : List Source} {descs : List FileDesc} → Describe limits sources files descs
      → AreDescribed limits sources descs
  as_described {files = files} d = record { files = files; by_name = d.by_name; each = d.each }

  -- sources describe one list
  pub one_described : {ds es : List FileDesc} (first : AreDescribed limits sources ds)
      (second : AreDescribed limits sources es) → (first.files ≡ second.files) × (ds ≡ es)
  one_described {ds = ds} {es = es} first second =
      let same = one_order sources first.files second.files first.by_name second.by_name in (
        same,
        one_zip (SourceDescribes limits) (λ s. one_descriptor limits (name_of s) (text_of s)) first.files ds es
            first.each (rw same second.each),
      )

  -- what is analysed twice
  pub one_analysed : {f g : List Source} {ds es : List FileDesc} {links others : Linked} {index other : Index}
      → IsAnalysed limits sources f ds links index → IsAnalysed limits sources g es others other
      → (f ≡ g) × (ds ≡ es) × IsAnalysed limits sources f ds others other
  one_analysed first second =
      let same = one_described (as_described first.described) (as_described second.described) in
      (same.0, same.1, rw (same.0, same.1) second)

-- ---- what files see of the index

module _ {limits : Limits} {descs : List FileDesc} {links : Linked} {index : Index} (linked : AreLinked descs links)
    (indexed : Indexes descs limits index) where
  -- what a file sees of the names of all files, by the index and the links
  seen_by_index : (a : ℕ) → a < length descs
      → AreSeenAlike (occurrences descs) (Sees descs a) index.occurrences (SeenBy links a)
  seen_by_index a h o =
      let into = Contains-permutation (occurrences descs) index.occurrences o indexed.all in
      let back = moved indexed.all (IsPermutation-refl (occurrences descs)) o in
      let sees = λ (w : Contains index.occurrences o).
      linked.sees a o.file h (below_files descs index.occurrences indexed.all o w) in
      (λ w. (into w.0, (sees (into w.0)).1 w.1), λ w. (back w.0, (sees w.0).0 w.1))

  -- and what is wrong with its types
  pub broken_by_index : (a : ℕ) (desc : FileDesc) (x : Spot) → a < length descs
      → TypesBreak (occurrences descs) (Sees descs a) desc x ↔ TypesBreakAt links index a desc x
  broken_by_index a desc x h =
      let alike = seen_by_index a h in
      let back = alike_back (occurrences descs) index.occurrences (Sees descs a) (SeenBy links a) alike in (
        breaks_alike (occurrences descs) index.occurrences (Sees descs a) (SeenBy links a) alike desc x,
        breaks_alike index.occurrences (occurrences descs) (SeenBy links a) (Sees descs a) back desc x,
      )

-- ---- types

module _ {limits : Limits} {descs : List FileDesc} {links others : Linked} {index other : Index}
    (linked : AreLinked descs links) (indexed : Indexes descs limits index) (also : AreLinked descs others)
    (too : Indexes descs limits other) where
  seen_alike : (a : ℕ) → a < length descs
      → AreSeenAlike index.occurrences (SeenBy links a) other.occurrences (SeenBy others a)
  seen_alike a h o = grind (arith, seen_by_index linked indexed a h o, seen_by_index also too a h o)

  one_typed : (a : ℕ) (fs gs hs : List FileDesc) → a + length fs ≤ length descs → AreTypedFrom links index a fs gs
      → AreTypedFrom others other a fs hs → gs ≡ hs
  one_typed a [] [] [] h first second = refl
  one_typed a (f ∷ fs) (g ∷ gs) (k ∷ hs) h first second =
      let same : g ≡ k = file_same index.occurrences other.occurrences (SeenBy links a) (SeenBy others a)
      (seen_alike a (omega (arith, h))) (file_scope f.«package») f g k first.0.resolved second.0.resolved in
      let rest = one_typed (a + 1) fs gs hs (omega (arith, h)) first.1 second.1 in cc (same, rest)
  one_typed a fs gs hs h first second = grind (arith)

-- what the files are with their types resolved
pub one_resolved : {limits : Limits} {sources f g : List Source} {ds es : List FileDesc} {links others : Linked}
    {index other : Index} → AreResolved limits sources f ds links index → AreResolved limits sources g es others other
    → (f ≡ g) × (ds ≡ es)
one_resolved {ds = ds} {es = es} first second =
    let mine = first.analysed in
    let (files, descs, also) = one_analysed mine second.analysed in (
      files,
      one_typed mine.linked mine.indexed also.linked also.indexed 0 first.descs ds es (omega arith) first.each
          (rw descs second.each),
    )

pub typed_at : (links : Linked) (index : Index) (a : ℕ) (fs gs : List FileDesc) → AreTypedFrom links index a fs gs
    → (k : ℕ) (desc : FileDesc) → StandsAt fs k desc → (g : FileDesc) × TypesAt links index (a + k) desc g
typed_at links index a [] gs all k desc at = absurd (omega (arith, at.0))
typed_at links index a (f ∷ fs) [] all k desc at = absurd all
typed_at links index a (f ∷ fs) (g ∷ gs) all zero desc at = (g, rw (add-zero, ← at.1) all.0)
typed_at links index a (f ∷ fs) (g ∷ gs) all (suc k) desc at =
    let next : a + suc k ≡ a + 1 + k = omega arith in
    rw next (typed_at links index (a + 1) fs gs all.1 k desc (omega (arith, at.0), at.1))

-- ---- the names of descriptors, and how many they are

pub same_names : (limits : Limits) (files : List Source) (descs : List FileDesc)
    → AllZip (SourceDescribes limits) files descs → map imports.name_of descs ≡ map name_of files
same_names limits [] [] all = refl
same_names limits (s ∷ files) (d ∷ descs) all = grind (arith, same_names limits files descs all.1)
same_names limits files descs all = absurd all

-- types resolved, a descriptor has its name
typed_names : (links : Linked) (index : Index) (a : ℕ) (descs typed : List FileDesc)
    → AreTypedFrom links index a descs typed → map imports.name_of typed ≡ map imports.name_of descs
typed_names links index a [] [] all = refl
typed_names links index a (f ∷ fs) (g ∷ gs) all = grind (arith, typed_names links index (a + 1) fs gs all.1)
typed_names links index a descs typed all = absurd all

pub resolved_names : {limits : Limits} {sources files : List Source} {typed : List FileDesc} {links : Linked}
    {index : Index} → AreResolved limits sources files typed links index → map imports.name_of typed ≡ map name_of files
resolved_names {limits = limits} {files = files} {typed = typed} {links = links} {index = index} r =
    typed_names links index 0 r.descs typed r.each ∙ same_names limits files r.descs r.analysed.described.each

pub as_many : {X Y : Type 0} (f : X → List ℕ) (g : Y → List ℕ) (xs : List X) (ys : List Y) → map f xs ≡ map g ys
    → length xs ≡ length ys
as_many f g xs ys same = omega (arith, ap length same, length-map xs f, length-map ys g)

-- ---- files of faults

-- an import stands in one of the files
pub bad_inside : (descs : List FileDesc) (a : ℕ) (place : Place) (kind : Kind) → imports.IsBad descs a place kind
    → a < length descs
bad_inside descs a place kind bad = grind (arith, cases_lt, get_or_past, length-map, none_in)

-- what occurs beside another
pub contains_second : (os : List Occurrence) (a b : Occurrence) → ContainsBoth os a b → Contains os b
contains_second os a b has = grind (arith, get_or_from_slice_get, slice_get_within)

pub twice_within : (descs : List FileDesc) (o : Occurrence) → IsTwice (occurrences descs) o → o.file < length descs
twice_within descs o twice =
    omega (arith, below_from 0 descs o (contains_second (occurrences descs) twice.0 o twice.1))

pub repeated_within : (limits : Limits) (descs : List FileDesc) (a : ℕ) (place : Place)
    → IsRepeated descs limits a place → a < length descs
repeated_within limits descs a place repeated =
    let (o, first, file, at) = repeated.twice in omega (arith, file, twice_within descs o first.among)

pub same_length : (limits : Limits) (files : List Source) (descs : List FileDesc)
    → AllZip (SourceDescribes limits) files descs → length files ≡ length descs
same_length limits files descs all = sym (AllZip-long (SourceDescribes limits) files descs all)
