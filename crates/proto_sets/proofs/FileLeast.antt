-- The faults of files: names that stand twice, contents, and full names that are too long.
use Rattle.std.proofs.Common.{◌≡◌, ◌∙◌, sym, ap, subst, ℕ, ◌+◌, ◌<◌, ◌≤◌, List, length, map, refl, arith, inl, inr, get_or}
use Rattle.std.proofs.lemmas.Bool.{cases_lt, cases_order}
use Rattle.std.proofs.lemmas.List.{length-map}
use Rattle.std.proofs.lemmas.List.Elements.{All-contains}
use Rattle.std.proofs.lemmas.List.Sorted.{IsPermutation-sym}
use Rattle.std.proofs.lemmas.Option.{get_or_from_slice_get, slice_get_read, slice_get_within}
use Rattle.proto_base.specs.declared.limits.Limits.{Limits}
use Rattle.proto_compilation.specs.Compilation.{CompiledFile, file_name}
use Rattle.proto_links.proofs.NameRows.{names_differ}
use Rattle.proto_names.specs.Occurrences.{Occurrence}
use Rattle.proto_sets.specs.SetFaults.{Breaks, Fault, IsLeastFault, long_name, name_at, no_contents, of_file, repeated_file}
use Rattle.proto_sets.specs.SetSteps.{AreNamed, AreSorted, IsFirstLong, IsFirstRepeated, IsFirstSilent}
use Rattle.proto_sets.specs.Sets.{AreByName, AreFilesIn, Contents, FileSays, IsShortName, SetSays, depth_of, names_from}
use Rattle.proto_sets.specs.declared.fault.SetKind.TheVariants as kind
use Rattle.proto_sets.proofs.LeastFault.{IsFirst, NoneBefore, file_order, least_of, name_order}
use Rattle.proto_sets.proofs.NamesFrom.{files_rise, names_inside}
use Rattle.proto_sets.proofs.OneSet.{named_each, one_by_name, one_placed, one_saying, zipped_at, zipped_heads}
use Rattle.proto_sets.proofs.SetLeast.{none_of_files}
use Rattle.proto_sets.proofs.Sorting.{Two, name_is, neighbours, not_before, not_greater, two_at, two_moved}

module _ (limits : Limits) (set : List ℕ) where
  -- ---- pass by pass, where files have passed

  pub none_of_names : {files : List CompiledFile} → AreByName limits set files → NoneBefore limits set 5
  none_of_names {files = files} is _ (repeated_file others i j are before below same) less =
      let one = one_placed are is.are in
      let two = subst (λ fs. Two (map file_name fs) (name_at others i)) one (two_at others i j before below same) in
      let (k, m, up, inside, here, there) = two_moved is.placed files (name_at others i) is.all two in
      names_differ (map file_name files) is.rises k m up inside (here ∙ sym there)
  none_of_names is y breaks less = none_of_files limits set is.are y breaks (omega (arith, less))

  pub none_of_contents : {files : List CompiledFile} {contents : List Contents} → SetSays limits set files contents
      → NoneBefore limits set 6
  none_of_contents {files = files} {contents = contents} says _ (no_contents others file also here silent) less =
      let (k, below, is) = rw (one_by_name also says.by_name) at here in
      let (c, said) = zipped_at (FileSays (depth_of limits)) files contents k file says.each (below, is) in
      silent c said
  none_of_contents says y breaks less = none_of_names says.by_name y breaks (omega (arith, less))

  pub none_of_long : {files : List CompiledFile} {contents : List Contents} → AreNamed limits set files contents
      → NoneBefore limits set 7
  none_of_long {contents = contents} are _ (long_name others more o also here over) less =
      let inside = rw (one_saying also are.says).1 at here in
      let short = All-contains (IsShortName limits) (names_from 0 contents) o are.short_names inside in
      omega (arith, short, over)
  none_of_long are y breaks less = none_of_contents are.says y breaks (omega (arith, less))

  -- ---- the least fault

  pub repeated_least : {placed : List CompiledFile} (files : List CompiledFile) (k : ℕ) → AreFilesIn limits set placed
      → AreSorted placed files → IsFirstRepeated files k
      → IsLeastFault limits set (of_file kind.FileNameTwice (name_at files k))
  repeated_least {placed = placed} files k are sorted first =
      least_of limits set (of_file kind.FileNameTwice (name_at files k)) breaks (none_of_files limits set are) own
    where
      breaks : Breaks limits set (of_file kind.FileNameTwice (name_at files k))
      breaks =
          let (i, j, less, below, one, two) = two_moved files placed (name_at files k)
          (IsPermutation-sym placed files sorted.all) (two_at files k (k + 1) (omega arith) first.below first.same) in
          rw (← one) (repeated_file placed i j are less (omega (arith, below, length-map placed file_name)) (one ∙ sym two))

      own : IsFirst limits set (of_file kind.FileNameTwice (name_at files k))
      own _ (repeated_file others i j also less below twice) same =
          let one = one_placed also are in
          let two = subst (λ fs. Two (map file_name fs) (name_at others i)) one (two_at others i j less below twice) in
          let (b, inside, name, next) = neighbours placed files (name_at others i) sorted two in
          let most : k ≤ b = elim (cases_lt b k) [ inl over ↦ absurd (first.first b over next) | inr most ↦ most ] in
          let up = not_greater (name_at files k) (name_at files b)
          (not_before placed files k b sorted most (omega (arith, inside))) in
          rw (← name) (name_order kind.FileNameTwice (name_at files k) (name_at files b) up)
      own y breaks same = absurd (omega (arith, same))

  pub silent_least : {files : List CompiledFile} (x : Fault) → AreByName limits set files
      → IsFirstSilent (depth_of limits) files x → IsLeastFault limits set x
  silent_least {files = files} x is first =
      let none : CompiledFile = first.file in
      let at : get_or files first.at none ≡ first.file = get_or_from_slice_get files first.at first.file none first.stands in
      let below = slice_get_within files first.at first.file first.stands in
      let name : first.file.name ≡ name_at files first.at = sym (name_is files first.at none below ∙ ap file_name at) in
      rw (first.is, name) (least_of limits set (of_file kind.MalformedContents (name_at files first.at))
      (rw (← name) (no_contents files first.file is (first.at, below, at) first.wrong)) (none_of_names is) own)
    where
      own : IsFirst limits set (of_file kind.MalformedContents (name_at files first.at))
      own _ (no_contents others file also here silent) same =
          let (k, inside, there) = rw (one_by_name also is) at here in
          let name : file.name ≡ name_at files k = sym (name_is files k file inside ∙ ap file_name there) in
          rw name (file_order kind.MalformedContents kind.MalformedContents files first.at k is.rises inside refl
          (elim (cases_order first.at k) [
            | inl here ↦ inr (here, omega arith)
            | inr (inl less) ↦ inl less
            | inr (inr over) ↦ (
                let (c, said) = first.before k file over (slice_get_read files (length files) k file refl inside (sym there)) in
                absurd (silent c said))
          ]))
      own y breaks same = absurd (omega (arith, same))

  pub long_name_least : {files : List CompiledFile} {contents : List Contents} (x : Fault)
      → SetSays limits set files contents → IsFirstLong limits (names_from 0 contents) files x
      → IsLeastFault limits set x
  long_name_least {files = files} {contents = contents} x says first =
      let names = names_from 0 contents in
      let at : get_or names first.at first.o ≡ first.o =
      get_or_from_slice_get names first.at first.o first.o first.stands in
      rw first.is (least_of limits set (of_file kind.NameTooLong (name_at files first.o.file))
      (long_name files contents first.o says (first.at, slice_get_within names first.at first.o first.stands, at)
      first.long) (none_of_contents says) own)
    where
      own : IsFirst limits set (of_file kind.NameTooLong (name_at files first.o.file))
      own _ (long_name others more o also here over) same =
          let names = names_from 0 contents in
          let d = first.o in
          let one = one_saying also says in
          let inside = rw one.1 at here in
          let (j, below, is) = inside in
          let stands = slice_get_read names (length names) j o refl below (sym is) in
          let most : first.at ≤ j = elim (cases_lt j first.at) [
            | inl before ↦ (let short = first.before j o before stands in absurd (omega (arith, short, over)))
            | inr most ↦ most
          ] in
          let up : d.file ≤ o.file = rw (
            get_or_from_slice_get names first.at d d first.stands,
            get_or_from_slice_get names j o d stands,
          ) at (files_rise 0 contents first.at j d most below) in
          let in_files = (All-contains (λ (p : Occurrence). (0 ≤ p.file) × (p.file < 0 + length contents)) names o
          (names_inside 0 contents) inside).1 in
          let size = (zipped_heads (depth_of limits) files contents (named_each says.by_name) says.each).0 in
          rw one.0 (file_order kind.NameTooLong kind.NameTooLong files d.file o.file says.by_name.rises
          (omega (arith, in_files, size)) refl (elim (cases_order d.file o.file) [
            | inl here ↦ inr (here, omega arith)
            | inr (inl less) ↦ inl less
            | inr (inr less) ↦ absurd (omega (arith, less, up))
          ]))
      own y breaks same = absurd (omega (arith, same))
