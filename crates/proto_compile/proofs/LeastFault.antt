-- The least fault of sources: the least of the first pass that finds any. Sources that have passed break no rule.
use Rattle.proto_compile.proofs.Common.{zero-add, ◌≡◌, ◌∙◌, sym, Contains, ℕ, ◌+◌, ◌<◌, ◌≤◌, List, [], length, ap, refl, arith, inl, inr, map, subst, Result, Ok, Err, Vec, IfErr, Global, ◌≢◌, Ordering, Greater, nat_cmp, cases_lt, cases_order, length-map, All-contains, Contains-permutation, IsPermutation-refl, IsPermutation-sym, AtMost, IsLeastBy, spot, NamesRise, Kind, Limits, Place, Spot, StandsAt, FileDesc, names_differ, rise_far, Linked, Index, IsTwice, Occurrence, occurrences, file_desc_bytes, AreResolved, IsAnalysed, TypesBreakAt, Compilation, IsCompiled, IsShort, IsWritten, set_of, Describe, SourceDescribes, Breaks, IsLeastFault, IsNoLater, SourceFault, bad_import, bad_type, fault, file_fault, long_descriptor, long_set, many_files, many_names, of_file, of_list, repeated_file_name, repeated_name, start, TellsOf, IsDescribed, IsFirstFound, IsResolved, IsWrittenShort, AreByName, name_at, text_of, Source, given_at, IfErr-weaker, CompileError, slice_cmp}
use Rattle.std.proofs.lemmas.Bool.Decides.{nat_tests}
use Rattle.share_work.specs.Shares.{GivesItems}
use Rattle.proto_base.specs.Limits.{limit_of}
use Rattle.proto_base.specs.declared.file_fault.FileError.{FileError}
use Rattle.proto_base.specs.declared.file_fault.FileError.TheVariants as local
use Rattle.proto_base.specs.FileFaults as file_faults
use Rattle.proto_base.specs.declared.file_fault.FileFault.{FileFault}
use Rattle.proto_base.specs.declared.kind.Kind.TheVariants as kind
use Rattle.proto_base.specs.declared.limits.Limit.TheVariants as limit
use Rattle.proto_file.proofs.OneLocal.{no_own}
use Rattle.proto_file.specs.Local.{IsLocalFault, IsOwnFault}
use Rattle.proto_links.specs.Imports as imports
use Rattle.proto_links.specs.Bad as bad_imports
use Rattle.proto_names.specs.Repeated.{IsRepeated}
use Rattle.proto_names.specs.Occurrences as names
use Rattle.proto_types.specs.declared.meaning.NamedType.{NamedType}
use Rattle.proto_compile.specs.Faults.{AreSorted, IsFirstRepeated, Tells}
use Rattle.proto_compile.specs.Sources.{name_of}
use Rattle.proto_compile.proofs.OneCompilation.{one_set}
use Rattle.proto_compile.proofs.OneTyping.{as_described, broken_by_index, item_at, one_described, one_resolved, standing_one, typed_at, zipped_at, bad_inside, contains_second, resolved_names, same_names, twice_within}
use Rattle.proto_compile.proofs.Placing.{NoneBefore, names_after}
use Rattle.proto_compile.proofs.Sorting.{moved, name_of_item, neighbours, not_before, not_greater, two_at, two_moved}
use Rattle.std.specs.Ordering.{ordering_then}
use Rattle.std.proofs.lemmas.Cmp.{nat_list_cmp_total, tied_itself}
use Rattle.std.proofs.lemmas.Map.Lookups.{exact_bytes}
use Rattle.proto_base.proofs.Spots.{same_kind, same_place}
use Rattle.proto_base.specs.Kind.{number_of}

-- ---- the order of faults

same_name : (file : List ℕ) → slice_cmp nat_cmp file file ≢ Greater
same_name file more = (let e = tied_itself nat_list_cmp_total file in cc)

no_name_first : (name : List ℕ) → slice_cmp nat_cmp [] name ≢ Greater
no_name_first name = grind (arith, same_name)

pub no_later_itself : (x : SourceFault) → IsNoLater x x
no_later_itself x = grind (arith, nat_tests, same_name)

-- of two orders, of which neither comes later, what comes first is one, and so it goes on
first_number : (m n : ℕ) (o p : Ordering) → ordering_then (nat_cmp m n) o ≢ Greater
    → ordering_then (nat_cmp n m) p ≢ Greater → (m ≡ n) × (o ≢ Greater) × (p ≢ Greater)
first_number m n o p h i = grind (arith, nat_tests)

first_name : (f g : List ℕ) (o p : Ordering) → ordering_then (slice_cmp nat_cmp f g) o ≢ Greater
    → ordering_then (slice_cmp nat_cmp g f) p ≢ Greater → (f ≡ g) × (o ≢ Greater) × (p ≢ Greater)
first_name f g o p h i = grind (arith, nat_list_cmp_total, exact_bytes)

pub one_fault : (x y : SourceFault) → IsNoLater x y → IsNoLater y x → x ≡ y
one_fault x y h i =
    let pass = first_number x.pass y.pass _ _ h i in
    let file = first_name x.file y.file _ _ pass.1 pass.2 in
    let step = first_number x.step y.step _ _ file.1 file.2 in
    let place = first_number x.place.offset y.place.offset _ _ step.1 step.2 in
    let number : number_of x.kind ≡ number_of y.kind = grind (arith, nat_tests, place.1, place.2) in
    λ k. record {
      pass = pass.0 k;
      file = file.0 k;
      step = step.0 k;
      place = same_place x.place y.place place.0 k;
      kind = same_kind x.kind y.kind number k;
    }

-- ---- results and errors

-- what follows of the fault that an error tells
pub tells_more : (P Q : SourceFault → Type 0) → ((x : SourceFault) → P x → Q x) → (e : CompileError) → TellsOf P e
    → TellsOf Q e
tells_more P Q h e p = grind (arith)

pub told : (P : SourceFault → Type 0) (x : SourceFault) (e : CompileError) → Tells x e → P x → TellsOf P e
told P x e is p = tells_more (λ y. y ≡ x) P (λ y same. subst P (sym same) p) e is

pub err_tells : {T : Type 0} (P Q : SourceFault → Type 0) (r : Result T CompileError)
    → ((x : SourceFault) → P x → Q x) → IfErr r (TellsOf P) → IfErr r (TellsOf Q)
err_tells P Q r h = IfErr-weaker r (TellsOf P) (TellsOf Q) (tells_more P Q h)

-- ---- faults of files

-- of one file
of_one_file : (pass : ℕ) (file : List ℕ) (f g : FileFault) → file_faults.IsNoLater f g
    → IsNoLater (fault pass file f) (fault pass file g)
of_one_file pass file f g order = grind (arith, nat_tests, same_name)

-- of two files of a list whose names rise
later_file : (pass : ℕ) (descs : List FileDesc) (a b : ℕ) (x y : Spot) → NamesRise (map imports.name_of descs)
    → b < length descs → bad_imports.IsNoLater (a, x) (b, y)
    → IsNoLater (of_file pass (imports.name_at descs a) x.place x.kind)
    (of_file pass (imports.name_at descs b) y.place y.kind)
later_file pass descs a b x y rise h order =
    grind (arith, nat_tests, same_name, length-map, rise_far (map imports.name_of descs) rise a b)

-- the first of the first file that has any
first_of_files : (pass : ℕ) (descs : List FileDesc) (S : ℕ → FileDesc → Spot → Type 0) (a : ℕ) (desc : FileDesc)
    (x : Spot) → NamesRise (map imports.name_of descs) → StandsAt descs a desc
    → ((y : Spot) → S a desc y → AtMost x y)
    → ((b : ℕ) (d : FileDesc) (y : Spot) → b < a → StandsAt descs b d → S b d y → ⊥)
    → (b : ℕ) (d : FileDesc) (y : Spot) → StandsAt descs b d → S b d y
    → IsNoLater (of_file pass (imports.name_at descs a) x.place x.kind)
    (of_file pass (imports.name_at descs b) y.place y.kind)
first_of_files pass descs S a desc x rise at least none b d y there wrong =
    later_file pass descs a b x y rise there.0 (elim (cases_order a b) [
      | inl here ↦ (
          let one = standing_one descs b d desc there.0 there.1 (rw here at at.1) in
          inr (here, least y (rw (here, ← one) wrong)))
      | inr (inl less) ↦ inl less
      | inr (inr over) ↦ absurd (none b d y over there wrong)
    ])

-- what is given for the first file that has a fault, and for each one before it
first_outcome : {X T : Type 0} {number : ℕ} {files : List Source} {x : SourceFault}
    (R : ℕ → X → Result T FileError → Type 0) (xs : List X) (outcomes : List (Result T FileError))
    → GivesItems R 0 xs outcomes → (f : IsFirstFound number files outcomes x) → (s : X) × StandsAt xs f.at s
    × R f.at s (Err (local.First f.found)) × ((b : ℕ) (t : X) → b < f.at → StandsAt xs b t → (r : T) × R b t (Ok r))
first_outcome R xs outcomes gives f =
    let (s, at) = item_at xs f.at (omega (arith, f.below, gives.0)) in (
      s,
      at,
      given_at R xs outcomes f.at s _ _ gives at.0 at.1 f.bad,
      λ b t less there. (
        (f.well b less).0,
        given_at R xs outcomes b t _ _ gives there.0 there.1 (f.well b less).1,
      ),
    )

-- of two names that stand twice, the first
twice_order : (a o : Occurrence) → names.IsNoLater a o
    → bad_imports.IsNoLater (a.file, spot a.place kind.NameTwice) (o.file, spot o.place kind.NameTwice)
twice_order a o order = grind (arith, cases_lt)

module _ (limits : Limits) (sources : List Source) where
  -- ---- pass by pass, where sources have passed

  pub none_of_list : (files : List Source) → length sources ≤ limit_of limits limit.Files → AreByName sources files
      → NoneBefore limits sources 1
  none_of_list files few order _ (many_files over) less = omega (arith, few, over)
  none_of_list files few order _ (repeated_file_name i j before below same) less =
      let (k, m, up, inside, one, two) = two_moved sources files (name_at sources i) order.all
      (two_at sources i j before below same) in
      names_differ (map name_of files) order.rises k m up inside (one ∙ sym two)
  none_of_list files few order y breaks less = omega (arith, less)

  pub none_of_files : {files : List Source} {descs : List FileDesc} → Describe limits sources files descs
      → NoneBefore limits sources 2
  none_of_files d _ (file_fault s f inside wrong) less =
      let (b, below, at) = Contains-permutation sources _ s d.by_name.all inside in
      let (desc, is) = zipped_at (SourceDescribes limits) _ _ b s d.each (below, at) in
      no_own limits (name_of s) (text_of s) desc f is wrong
  none_of_files d y breaks less = none_of_list _ d.few d.by_name y breaks (omega (arith, less))

  pub none_of_imports : {files : List Source} {descs : List FileDesc} → Describe limits sources files descs
      → imports.NoneBad descs → NoneBefore limits sources 3
  none_of_imports d none _ (bad_import others a place what described bad) less =
      none a place what (rw (one_described described (as_described d)).1 at bad)
  none_of_imports d none y breaks less = none_of_files d y breaks (omega (arith, less))

  pub none_of_names : {files : List Source} {descs : List FileDesc} {links : Linked} {index : Index}
      → IsAnalysed limits sources files descs links index → NoneBefore limits sources 4
  none_of_names is _ (many_names others described over) less =
      let more = rw (one_described described (as_described is.described)).1 at over in
      omega (arith, more, is.indexed.within)
  none_of_names is _ (repeated_name others o described twice) less =
      is.indexed.once o (rw (one_described described (as_described is.described)).1 at twice)
  none_of_names is y breaks less = none_of_imports is.described is.linked.whole y breaks (omega (arith, less))

  -- a pass finds its faults in files
  abbrev pub AreOfFiles : ℕ → List FileDesc → (ℕ → FileDesc → Spot → Type 0) → Type 0
  AreOfFiles pass descs S = (y : SourceFault) → Breaks limits sources y → y.pass ≡ pass → (b : ℕ) × (d : FileDesc)
      × (z : Spot) × StandsAt descs b d × S b d z × (y ≡ of_file pass (imports.name_at descs b) z.place z.kind)

  pub of_types : {files : List Source} {descs : List FileDesc} {links : Linked} {index : Index}
      → IsAnalysed limits sources files descs links index → AreOfFiles 4 descs (TypesBreakAt links index)
  of_types is _ (bad_type others b desc place what also stands breaks) same =
      let one = (one_described also (as_described is.described)).1 in
      let at = rw one at stands in
      let wrong = (broken_by_index is.linked is.indexed b desc (spot place what) at.0).0 (rw one at breaks) in
      (b, desc, spot place what, at, wrong, rw one refl)
  of_types is y breaks same = absurd (omega (arith, same))

  none_of_types : {files : List Source} {typed : List FileDesc} {links : Linked} {index : Index}
      → AreResolved limits sources files typed links index → NoneBefore limits sources 5
  none_of_types r y breaks less = elim (cases_lt y.pass 4) [
    | inl before ↦ none_of_names r.analysed y breaks before
    | inr last ↦ (
        let (a, desc, x, at, wrong, is) = of_types r.analysed y breaks (omega (arith, last, less)) in
        (rw zero-add at (typed_at _ _ 0 _ _ r.each a desc at).1).whole x wrong)
  ]

  of_lengths : {files : List Source} {typed : List FileDesc} {links : Linked} {index : Index}
      → AreResolved limits sources files typed links index → AreOfFiles 5 typed (λ b d z.
      (limit_of limits limit.DescriptorBytes < length (file_desc_bytes d)) × (z ≡ spot start kind.DescriptorTooLong))
  of_lengths r _ (long_descriptor files others links' index' b desc resolved stands over) same =
      let one = (one_resolved resolved r).1 in
      (b, desc, spot start kind.DescriptorTooLong, rw one at stands, (over, refl), rw one refl)
  of_lengths r y breaks same = absurd (omega (arith, same))

  none_of_lengths : (c : Compilation) → IsWritten limits sources c → NoneBefore limits sources 6
  none_of_lengths c w y breaks less = elim (cases_lt y.pass 5) [
    | inl before ↦ none_of_types w.resolved y breaks before
    | inr last ↦ (
        let (a, desc, x, at, wrong, is) = of_lengths w.resolved y breaks (omega (arith, last, less)) in
        let fits = All-contains (IsShort limits) w.descs desc w.short (a, at.0, at.1) in
        omega (arith, fits, wrong.0))
  ]

  -- sources that are compiled break no rule
  pub no_fault_at_all : (c : Compilation) (x : SourceFault) → IsCompiled limits sources c → Breaks limits sources x → ⊥
  no_fault_at_all c _ is (long_set d written over) =
      let number = ap length (one_set written is.written) in omega (arith, over, is.within, number)
  no_fault_at_all c x is breaks = none_of_lengths c is.written x breaks (omega arith)

  -- ---- the least fault

  -- no fault of the same pass comes before it
  abbrev IsFirst : SourceFault → Type 0
  IsFirst x = (y : SourceFault) → Breaks limits sources y → y.pass ≡ x.pass → IsNoLater x y

  least_of : (x : SourceFault) → Breaks limits sources x → NoneBefore limits sources x.pass → IsFirst x
      → IsLeastFault limits sources x
  least_of x breaks none own = record {
    among = record { breaks = breaks; judged = none };
    least = λ y found. elim (cases_order x.pass y.pass) [
      | inl same ↦ own y found.breaks (sym same)
      | inr (inl less) ↦ grind (arith, nat_tests)
      | inr (inr over) ↦ absurd (none y found.breaks over)
    ];
  }

  -- two that are least are one
  pub one_least : (x y : SourceFault) → IsLeastFault limits sources x → IsLeastFault limits sources y → x ≡ y
  one_least x y first second = one_fault x y (first.least y second.among) (second.least x first.among)

  -- ---- the list of sources

  pub many_least : limit_of limits limit.Files < length sources
      → IsLeastFault limits sources (of_list 0 kind.TooManyFiles)
  many_least over = least_of (of_list 0 kind.TooManyFiles) (many_files over) (λ y breaks less. omega (arith, less)) own
    where
      own : IsFirst (of_list 0 kind.TooManyFiles)
      own _ (many_files over) same = no_later_itself (of_list 0 kind.TooManyFiles)
      own _ (repeated_file_name i j less below twice) same =
          grind (arith, nat_tests, no_name_first)
      own y breaks same = absurd (omega (arith, same))

  pub repeated_least : (files : List Source) (k : ℕ) → length sources ≤ limit_of limits limit.Files
      → AreSorted sources files → IsFirstRepeated files k
      → IsLeastFault limits sources (of_file 0 (name_at files k) start kind.FileNameTwice)
  repeated_least files k few sorted first =
      least_of (of_file 0 (name_at files k) start kind.FileNameTwice) breaks (λ y breaks less. omega (arith, less)) own
    where
      breaks : Breaks limits sources (of_file 0 (name_at files k) start kind.FileNameTwice)
      breaks =
          let (i, j, less, below, one, two) = two_moved files sources (name_at files k)
          (IsPermutation-sym sources files sorted.all) (two_at files k (k + 1) (omega arith) first.below first.same) in
          rw (← one) (repeated_file_name i j less (omega (arith, below, length-map sources name_of)) (one ∙ sym two))

      own : IsFirst (of_file 0 (name_at files k) start kind.FileNameTwice)
      own _ (many_files over) same = absurd (omega (arith, few, over))
      own _ (repeated_file_name i j less below twice) same =
          let (b, inside, name, next) =
          neighbours sources files (name_at sources i) sorted (two_at sources i j less below twice) in
          let most : k ≤ b = elim (cases_lt b k) [ inl over ↦ absurd (first.first b over next) | inr most ↦ most ] in
          let up = not_greater (name_at files k) (name_at files b)
          (not_before sources files k b sorted most (omega (arith, inside))) in
          rw (← name) (grind (arith, nat_tests, up))
      own y breaks same = absurd (omega (arith, same))

  -- ---- the sources by themselves

  pub local_least : (files : List Source) (k : ℕ) (s : Source) (f : FileFault)
      → length sources ≤ limit_of limits limit.Files → AreByName sources files → StandsAt files k s
      → IsLocalFault limits (name_of s) (text_of s) f
      → ((b : ℕ) (t : Source) → b < k → StandsAt files b t → (desc : FileDesc) × SourceDescribes limits t desc)
      → IsLeastFault limits sources (fault 1 (name_of s) f)
  local_least files k s f few order at wrong before =
      let inside = moved order.all (IsPermutation-refl sources) s (k, at.0, at.1) in
      least_of (fault 1 (name_of s) f) (file_fault s f inside wrong.among) (none_of_list files few order) own
    where
      own : IsFirst (fault 1 (name_of s) f)
      own _ (file_fault t g within also) same =
          let (b, below, is) = Contains-permutation sources files t order.all within in
          elim (cases_order k b) [
            | inl here ↦ (
                let one = standing_one files k s t at.0 at.1 (rw (← here) at is) in
                rw (← one) (of_one_file 1 (name_of s) f g (wrong.least g (rw (← one) at also))))
            | inr (inl less) ↦ (
                let rise = rise_far (map name_of files) order.rises k b less in
                let name = name_of_item files k s at.0 (sym at.1) in
                grind (arith, nat_tests, length-map, rise, name, name_of_item files b t below (sym is)))
            | inr (inr over) ↦ (
                let d = before b t over (below, is) in
                absurd (no_own limits (name_of t) (text_of t) d.0 g d.1 also))
          ]
      own y breaks same = absurd (omega (arith, same))

  pub first_local : (files : List Source) (outcomes : List (Result FileDesc FileError))
      → length sources ≤ limit_of limits limit.Files → AreByName sources files
      → GivesItems (λ k. IsDescribed limits) 0 files outcomes → (x : SourceFault) → IsFirstFound 1 files outcomes x
      → IsLeastFault limits sources x
  first_local files outcomes few order gives x f =
      let (s, at, wrong, before) = first_outcome (λ k. IsDescribed limits) files outcomes gives f in
      rw (f.is, name_of_item files f.at s at.0 (sym at.1)) (local_least files f.at s f.found few order at wrong before)

  -- the first file that has a fault has it by itself
  pub own_found : (files : List Source) (outcomes : List (Result FileDesc FileError))
      → GivesItems (λ k. IsDescribed limits) 0 files outcomes → (x : SourceFault) → IsFirstFound 1 files outcomes x
      → (s : Source) × Contains files s
      × ((f : FileFault) × IsOwnFault limits (name_of s) (text_of s) f × (x ≡ fault 1 (name_of s) f))
  own_found files outcomes gives x f =
      let (s, at, wrong, before) = first_outcome (λ k. IsDescribed limits) files outcomes gives f in (
        s,
        (f.at, at.0, at.1),
        (f.found, wrong.among, f.is ∙ ap (λ name. fault 1 name f.found) (name_of_item files f.at s at.0 (sym at.1))),
      )

  -- ---- imports

  pub descs_rise : {files : List Source} {descs : List FileDesc} → Describe limits sources files descs
      → NamesRise (map imports.name_of descs)
  descs_rise d = rw (same_names limits _ _ d.each) d.by_name.rises

  pub import_least : (files : List Source) (descs : List FileDesc) (a : ℕ) (place : Place) (what : Kind)
      → Describe limits sources files descs → bad_imports.IsFirstBad descs a place what
      → IsLeastFault limits sources (of_file 2 (imports.name_at descs a) place what)
  import_least files descs a place what d first =
      least_of (of_file 2 (imports.name_at descs a) place what)
      (bad_import descs a place what (as_described d) first.among) (none_of_files d) own
    where
      own : IsFirst (of_file 2 (imports.name_at descs a) place what)
      own _ (bad_import others b q l described bad) same =
          let one = (one_described (as_described d) described).1 in
          let own = rw (← one) at bad in
          rw (← one) (later_file 2 descs a b (spot place what) (spot q l) (descs_rise d) (bad_inside descs b q l own)
          (first.least (b, spot q l) own))
      own y breaks same = absurd (omega (arith, same))

  -- ---- names

  pub many_names_least : (files : List Source) (descs : List FileDesc) → Describe limits sources files descs
      → imports.NoneBad descs → limit_of limits limit.Names < length (occurrences descs)
      → IsLeastFault limits sources (of_list 3 kind.TooManyNames)
  many_names_least files descs d whole over =
      least_of (of_list 3 kind.TooManyNames) (many_names descs (as_described d) over) (none_of_imports d whole) own
    where
      own : IsFirst (of_list 3 kind.TooManyNames)
      own _ (many_names others described more) same = no_later_itself (of_list 3 kind.TooManyNames)
      own _ (repeated_name others o described twice) same =
          let here = contains_second (occurrences others) twice.0 o twice.1 in
          grind (arith, nat_tests, no_name_first, names_after limits described.files others o described.each here)
      own y breaks same = absurd (omega (arith, same))

  pub name_twice_least : (files : List Source) (descs : List FileDesc) (a : ℕ) (place : Place)
      → Describe limits sources files descs → imports.NoneBad descs → IsRepeated descs limits a place
      → IsLeastFault limits sources (of_file 3 (imports.name_at descs a) place kind.NameTwice)
  name_twice_least files descs a place d whole repeated =
      let (o, first, file, at) = repeated.twice in
      rw (← file, ← at) (least_of (told o) (repeated_name descs o (as_described d) first.among)
      (none_of_imports d whole) (own o first))
    where
      told : Occurrence → SourceFault
      told o = of_file 3 (imports.name_at descs o.file) o.place kind.NameTwice

      own : (o : Occurrence) → IsLeastBy names.IsNoLater (IsTwice (occurrences descs)) o → IsFirst (told o)
      own o first _ (many_names others described over) same =
          let more = rw (one_described described (as_described d)).1 at over in
          absurd (omega (arith, more, repeated.within))
      own o first _ (repeated_name others p described twice) same =
          let one = (one_described (as_described d) described).1 in
          let own = rw (← one) at twice in
          rw (← one) (later_file 3 descs o.file p.file (spot o.place kind.NameTwice) (spot p.place kind.NameTwice)
          (descs_rise d) (twice_within descs p own) (twice_order o p (first.least p own)))
      own o first y breaks same = absurd (omega (arith, same))

  -- ---- types and lengths

  pub first_break : (files : List Source) (descs : List FileDesc) (links : Linked) (index : Index)
      (outcomes : List (Result (Vec NamedType Global) FileError)) → IsAnalysed limits sources files descs links index
      → GivesItems (IsResolved links index) 0 descs outcomes → (x : SourceFault) → IsFirstFound 4 files outcomes x
      → IsLeastFault limits sources x
  first_break files descs links index outcomes is gives x f =
      let (desc, at, found, before) = first_outcome (IsResolved links index) descs outcomes gives f in
      let s = f.found.spot in
      let breaks = bad_type descs f.at desc s.place s.kind (as_described is.described) at
      ((broken_by_index is.linked is.indexed f.at desc s at.0).1 found.1.is.among) in
      let first = first_of_files 4 descs (TypesBreakAt links index) f.at desc s (descs_rise is.described) at
      found.1.is.least (λ b d z less there. (before b d less there).1.0 z) in
      rw (f.is, ← same_names limits files descs is.described.each, found.0) (least_of
      (of_file 4 (imports.name_at descs f.at) s.place s.kind) breaks (none_of_names is) (λ y broken same. (
      let (b, d, z, there, wrong, told) = of_types is y broken same in rw told (first b d z there wrong))))

  pub first_long : (files : List Source) (typed : List FileDesc) (links : Linked) (index : Index)
      (outcomes : List (Result (Vec ℕ Global) FileError)) → AreResolved limits sources files typed links index
      → GivesItems (λ k. IsWrittenShort limits) 0 typed outcomes → (x : SourceFault) → IsFirstFound 5 files outcomes x
      → IsLeastFault limits sources x
  first_long files typed links index outcomes r gives x f =
      let (desc, at, found, before) = first_outcome (λ k. IsWrittenShort limits) typed outcomes gives f in
      let s = spot start kind.DescriptorTooLong in
      let first = first_of_files 5 typed (λ b d z. (limit_of limits limit.DescriptorBytes < length (file_desc_bytes d))
      × (z ≡ s)) f.at desc s (rw (resolved_names r) r.analysed.described.by_name.rises) at
      (λ z wrong. rw wrong.1 (inr (refl, omega arith)))
      (λ b d z less there wrong. omega (arith, (before b d less there).1.1, wrong.0)) in
      rw (f.is, ← resolved_names r, found.0) (least_of
      (of_file 5 (imports.name_at typed f.at) start kind.DescriptorTooLong)
      (long_descriptor files typed links index f.at desc r at found.1) (none_of_types r) (λ y broken same. (
      let (b, d, z, there, wrong, told) = of_lengths r y broken same in rw told (first b d z there wrong))))

  pub set_least : (c : Compilation) → IsWritten limits sources c
      → limit_of limits limit.SetBytes < length (set_of c.files c.links)
      → IsLeastFault limits sources (of_list 6 kind.SetTooLong)
  set_least c written over =
      least_of (of_list 6 kind.SetTooLong) (long_set c written over) (none_of_lengths c written) own
    where
      own : IsFirst (of_list 6 kind.SetTooLong)
      own _ (long_set d also more) same = no_later_itself (of_list 6 kind.SetTooLong)
      own y breaks same = absurd (omega (arith, same))
