-- The faults of imports, and of names of all files.
use Rattle.std.proofs.Common.{◌≡◌, ◌∙◌, sym, ap, ℕ, zero, suc, ◌+◌, ◌<◌, ◌≤◌, List, [], ◌∷◌, length, map, refl, arith, inl, inr, All, Contains}
use Rattle.std.proofs.lemmas.Bool.{cases_lt}
use Rattle.std.proofs.lemmas.List.{get_or_past, length-map}
use Rattle.std.proofs.lemmas.List.Elements.{All-contains}
use Rattle.std.proofs.lemmas.Option.{get_or_from_slice_get, slice_get_within}
use Rattle.std.specs.List.{AllZip}
use Rattle.proto_base.specs.Least.{IsLeastBy, spot}
use Rattle.proto_base.specs.Limits.{limit_of}
use Rattle.proto_base.specs.declared.kind.Kind.{Kind}
use Rattle.proto_base.specs.declared.kind.Kind.TheVariants as rule
use Rattle.proto_base.specs.declared.limits.Limit.TheVariants as limit
use Rattle.proto_base.specs.declared.limits.Limits.{Limits}
use Rattle.proto_base.specs.declared.place.Place.{Place}
use Rattle.proto_compilation.specs.Compilation.{Compilation, CompiledFile}
use Rattle.proto_desc.specs.declared.file.FileDesc.{FileDesc}
use Rattle.proto_desc.specs.declared.file.ImportDescriptor.{ImportDescriptor}
use Rattle.proto_links.proofs.Rising.{front_or_behind, none_in}
use Rattle.proto_links.specs.Bad as bad_imports
use Rattle.proto_links.specs.Imports as imports
use Rattle.proto_names.specs.Occurrences.{IsTwice, Occurrence}
use Rattle.proto_names.specs.Occurrences as names
use Rattle.proto_names.specs.Repeated.{IsRepeatedAmong}
use Rattle.proto_sets.specs.SetFaults.{Breaks, Fault, IsLeastFault, circular_import, many_names, missing_import, name_at, of_file, of_set, pass_of, repeated_name}
use Rattle.proto_sets.specs.Heads.{imports_from}
use Rattle.proto_sets.specs.Says.{start}
use Rattle.proto_sets.specs.SetSteps.{AreNamed, import_kind}
use Rattle.proto_sets.specs.Sets.{Contents, FileSays, IsOfSet, SetSays, depth_of, head_of, names_from}
use Rattle.proto_sets.specs.declared.fault.SetKind.{SetKind}
use Rattle.proto_sets.specs.declared.fault.SetKind.TheVariants as kind
use Rattle.proto_sets.proofs.FileLeast.{none_of_long}
use Rattle.proto_sets.proofs.LeastFault.{IsFirst, NoneBefore, file_order, least_of, no_later_itself}
use Rattle.proto_sets.proofs.NamesFrom.{names_inside}
use Rattle.proto_sets.proofs.OneSet.{named_each, one_saying, zipped_heads}

-- what stands twice is one of the names
pub twice_inside : (os : List Occurrence) (o : Occurrence) → IsTwice os o → Contains os o
twice_inside os o (a, (i, j, differ, first, second), clash) =
    (j, slice_get_within os j o second, get_or_from_slice_get os j o o second)

pub repeated_inside : (limits : Limits) (os : List Occurrence) (a : ℕ) (place : Place) (n : ℕ)
    → All (λ (o : Occurrence). o.file < n) os → IsRepeatedAmong os limits a place → a < n
repeated_inside limits os a place n all repeated =
    let (o, first, file, at) = repeated.twice in
    let inside = All-contains (λ (p : Occurrence). p.file < n) os o all (twice_inside os o first.among) in
    omega (arith, inside, file)

-- an import that is bad is one of a file's
pub bad_inside : (heads : List FileDesc) (a : ℕ) (place : Place) (what : Kind) → imports.IsBad heads a place what
    → a < length heads
bad_inside heads a place what bad = grind (arith, cases_lt, get_or_past, length-map, none_in)

-- descriptors have no places
imports_start : (publics : List ℕ) (k : ℕ) (paths : List (List ℕ)) (i : ImportDescriptor)
    → Contains (imports_from publics k paths) i → i.place ≡ start
imports_start publics k [] i has = absurd (none_in i has)
imports_start publics k (path ∷ paths) i has = elim (front_or_behind _ (imports_from publics (k + 1) paths) i has) [
  | inl here ↦ ap (λ (j : ImportDescriptor). j.place) (sym here)
  | inr behind ↦ imports_start publics (k + 1) paths i behind
]

heads_start : (depth : ℕ) (files : List CompiledFile) (contents : List Contents)
    → AllZip (FileSays depth) files contents → (a : ℕ) (i : ImportDescriptor)
    → Contains (imports.imports_at (map head_of contents) a) i → i.place ≡ start
heads_start depth [] [] each a i has = absurd (none_in i has)
heads_start depth (f ∷ files) (c ∷ contents) each zero i has =
    imports_start _ 0 _ i (rw each.0.of_head.imports at has)
heads_start depth (f ∷ files) (c ∷ contents) each (suc a) i has = heads_start depth files contents each.1 a i has
heads_start depth files contents each a i has = absurd each

bad_place : (depth : ℕ) (files : List CompiledFile) (contents : List Contents)
    → AllZip (FileSays depth) files contents → (a : ℕ) (place : Place) (what : Kind)
    → imports.IsBad (map head_of contents) a place what → place.offset ≡ 0
bad_place depth files contents each a place what (i, here, at, wrong) =
    ap (λ (p : Place). p.offset) (sym at ∙ heads_start depth files contents each a i here)

pass_below : (k : SetKind) → pass_of k < 10
pass_below kind.SetTooLong = omega arith
pass_below kind.MalformedSet = omega arith
pass_below kind.TooManyFiles = omega arith
pass_below kind.MalformedFile = omega arith
pass_below kind.FileWithoutName = omega arith
pass_below kind.FileNameTwice = omega arith
pass_below kind.MalformedContents = omega arith
pass_below kind.NameTooLong = omega arith
pass_below kind.ImportMissing = omega arith
pass_below kind.ImportCycle = omega arith
pass_below kind.TooManyNames = omega arith
pass_below kind.NameTwice = omega arith

module _ (limits : Limits) (set : List ℕ) where
  -- where the files are as many as their contents
  sizes : {files : List CompiledFile} {contents : List Contents} → SetSays limits set files contents
      → (length files ≡ length contents) × (length (map head_of contents) ≡ length contents)
  sizes {files = files} {contents = contents} says = (
    (zipped_heads (depth_of limits) files contents (named_each says.by_name) says.each).0,
    length-map contents head_of,
  )

  below : {files : List CompiledFile} {contents : List Contents} → SetSays limits set files contents → (b : ℕ)
      (place : Place) (what : Kind) → imports.IsBad (map head_of contents) b place what → b < length files
  below {contents = contents} says b place what bad =
      let inside = bad_inside (map head_of contents) b place what bad in
      let size = sizes says in
      omega (arith, inside, size.0, size.1)

  -- ---- pass by pass, where files have passed

  pub none_of_imports : {files : List CompiledFile} {contents : List Contents} → AreNamed limits set files contents
      → imports.NoneBad (map head_of contents) → NoneBefore limits set 8
  none_of_imports are none _ (missing_import others more a place also bad) less =
      none a place rule.ImportMissing (rw (one_saying also are.says).1 at bad)
  none_of_imports are none _ (circular_import others more a place also bad) less =
      none a place rule.ImportCycle (rw (one_saying also are.says).1 at bad)
  none_of_imports are none y breaks less = none_of_long limits set are y breaks (omega (arith, less))

  pub none_of_count : {files : List CompiledFile} {contents : List Contents} → AreNamed limits set files contents
      → imports.NoneBad (map head_of contents) → length (names_from 0 contents) ≤ limit_of limits limit.Names
      → NoneBefore limits set 9
  none_of_count are none few _ (many_names others more also over) less =
      let inside = rw (one_saying also are.says).1 at over in omega (arith, inside, few)
  none_of_count are none few y breaks less = none_of_imports are none y breaks (omega (arith, less))

  -- a set that is read breaks no rule
  none_of_names : {files : List CompiledFile} {contents : List Contents} → AreNamed limits set files contents
      → imports.NoneBad (map head_of contents) → length (names_from 0 contents) ≤ limit_of limits limit.Names
      → names.NoneTwice (names_from 0 contents) → NoneBefore limits set 10
  none_of_names are none few once _ (repeated_name others more o also twice) less =
      once o (rw (one_saying also are.says).1 at twice)
  none_of_names are none few once y breaks less = none_of_count are none few y breaks (omega (arith, less))

  pub no_fault_at_all : (c : Compilation) (x : Fault) → IsOfSet limits set c → Breaks limits set x → ⊥
  no_fault_at_all c x is breaks =
      none_of_names (record { says = is.says; short_names = is.short_names }) is.linked.whole is.indexed.within
      is.indexed.once x breaks (pass_below x.kind)

  -- ---- imports

  breaks_missing : {files : List CompiledFile} {contents : List Contents} → AreNamed limits set files contents
      → (a : ℕ) (place : Place) → bad_imports.IsFirstBad (map head_of contents) a place rule.ImportMissing
      → IsLeastFault limits set (of_file kind.ImportMissing (name_at files a))
  breaks_missing {files = files} {contents = contents} are a place first =
      least_of limits set (of_file kind.ImportMissing (name_at files a))
      (missing_import files contents a place are.says first.among) (none_of_long limits set are) own
    where
      own : IsFirst limits set (of_file kind.ImportMissing (name_at files a))
      own _ (missing_import others more b q also bad) same =
          let one = one_saying also are.says in
          let mine = rw one.1 at bad in
          rw one.0 (file_order kind.ImportMissing kind.ImportMissing files a b are.says.by_name.rises
          (below are.says b q rule.ImportMissing mine) refl (elim (first.least (b, spot q rule.ImportMissing) mine) [
            | inl less ↦ inl less
            | inr here ↦ inr (here.0, omega arith)
          ]))
      own _ (circular_import others more b q also bad) same =
          let one = one_saying also are.says in
          let mine = rw one.1 at bad in
          rw one.0 (file_order kind.ImportMissing kind.ImportCycle files a b are.says.by_name.rises
          (below are.says b q rule.ImportCycle mine) refl (elim (first.least (b, spot q rule.ImportCycle) mine) [
            | inl less ↦ inl less
            | inr here ↦ inr (here.0, omega arith)
          ]))
      own y breaks same = absurd (omega (arith, same))

  breaks_circular : {files : List CompiledFile} {contents : List Contents} → AreNamed limits set files contents
      → (a : ℕ) (place : Place) → bad_imports.IsFirstBad (map head_of contents) a place rule.ImportCycle
      → IsLeastFault limits set (of_file kind.ImportCycle (name_at files a))
  breaks_circular {files = files} {contents = contents} are a place first =
      least_of limits set (of_file kind.ImportCycle (name_at files a))
      (circular_import files contents a place are.says first.among) (none_of_long limits set are) own
    where
      own : IsFirst limits set (of_file kind.ImportCycle (name_at files a))
      own _ (missing_import others more b q also bad) same =
          let one = one_saying also are.says in
          let mine = rw one.1 at bad in
          let here_start = bad_place (depth_of limits) files contents are.says.each a place rule.ImportCycle first.among in
          let there_start = bad_place (depth_of limits) files contents are.says.each b q rule.ImportMissing mine in
          rw one.0 (file_order kind.ImportCycle kind.ImportMissing files a b are.says.by_name.rises
          (below are.says b q rule.ImportMissing mine) refl (elim (first.least (b, spot q rule.ImportMissing) mine) [
            | inl less ↦ inl less
            | inr (same_file, inl before) ↦ absurd (omega (arith, before, here_start, there_start))
            | inr (same_file, inr tied) ↦ absurd (omega (arith, tied.1))
          ]))
      own _ (circular_import others more b q also bad) same =
          let one = one_saying also are.says in
          let mine = rw one.1 at bad in
          rw one.0 (file_order kind.ImportCycle kind.ImportCycle files a b are.says.by_name.rises
          (below are.says b q rule.ImportCycle mine) refl (elim (first.least (b, spot q rule.ImportCycle) mine) [
            | inl less ↦ inl less
            | inr here ↦ inr (here.0, omega arith)
          ]))
      own y breaks same = absurd (omega (arith, same))

  by_kind : {files : List CompiledFile} {contents : List Contents} → AreNamed limits set files contents
      → (a : ℕ) (place : Place) (what : Kind) → bad_imports.IsFirstBad (map head_of contents) a place what
      → imports.IsBad (map head_of contents) a place what
      → IsLeastFault limits set (of_file (import_kind what) (name_at files a))
  by_kind are a place _ first (i, here, at, imports.missing none) = breaks_missing are a place first
  by_kind are a place _ first (i, here, at, imports.cyclic b named leads) = breaks_circular are a place first

  pub import_least : {files : List CompiledFile} {contents : List Contents} → AreNamed limits set files contents
      → (a : ℕ) (place : Place) (what : Kind) → bad_imports.IsFirstBad (map head_of contents) a place what
      → IsLeastFault limits set (of_file (import_kind what) (name_at files a))
  import_least are a place what first = by_kind are a place what first first.among

  -- ---- names

  pub many_names_least : {files : List CompiledFile} {contents : List Contents} → AreNamed limits set files contents
      → imports.NoneBad (map head_of contents) → limit_of limits limit.Names < length (names_from 0 contents)
      → IsLeastFault limits set (of_set kind.TooManyNames)
  many_names_least {files = files} {contents = contents} are none over =
      least_of limits set (of_set kind.TooManyNames) (many_names files contents are.says over) (none_of_imports are none)
      own
    where
      own : IsFirst limits set (of_set kind.TooManyNames)
      own _ (many_names others more also too) same = no_later_itself (of_set kind.TooManyNames)
      own y breaks same = absurd (omega (arith, same))

  pub name_twice_least : {files : List CompiledFile} {contents : List Contents} → AreNamed limits set files contents
      → imports.NoneBad (map head_of contents) → (a : ℕ) (place : Place)
      → IsRepeatedAmong (names_from 0 contents) limits a place
      → IsLeastFault limits set (of_file kind.NameTwice (name_at files a))
  name_twice_least {files = files} {contents = contents} are none a place repeated =
      let (o, first, file, at) = repeated.twice in
      rw (← file) (least_of limits set (of_file kind.NameTwice (name_at files o.file))
      (repeated_name files contents o are.says first.among) (none_of_count are none repeated.within) (own o first))
    where
      own : (o : Occurrence) → IsLeastBy names.IsNoLater (IsTwice (names_from 0 contents)) o
          → IsFirst limits set (of_file kind.NameTwice (name_at files o.file))
      own o first _ (repeated_name others more p also twice) same =
          let one = one_saying also are.says in
          let mine = rw one.1 at twice in
          let inside = (All-contains (λ (q : Occurrence). (0 ≤ q.file) × (q.file < 0 + length contents))
          (names_from 0 contents) p (names_inside 0 contents) (twice_inside (names_from 0 contents) p mine)).1 in
          rw one.0 (file_order kind.NameTwice kind.NameTwice files o.file p.file are.says.by_name.rises
          (omega (arith, inside, (sizes are.says).0)) refl (elim (first.least p mine) [
            | inl less ↦ inl less
            | inr here ↦ inr (here.0, omega arith)
          ]))
      own o first y breaks same = absurd (omega (arith, same))
