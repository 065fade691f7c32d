-- The faults of the whole set, and of files without a name.
use Rattle.std.proofs.Common.{◌≡◌, ◌≢◌, ◌⊎◌, ◌∙◌, sym, ap, ℕ, ◌<◌, ◌≤◌, List, [], length, map, refl, arith, inl, inr, slice_get, All, Some, take_all}
use Rattle.std.proofs.lemmas.Bool.{cases_order}
use Rattle.std.proofs.lemmas.List.{length-map}
use Rattle.std.proofs.lemmas.Option.{slice_get_within}
use Rattle.proto_base.specs.Limits.{limit_of}
use Rattle.proto_base.specs.declared.limits.Limit.TheVariants as limit
use Rattle.proto_base.specs.declared.limits.Limits.{Limits}
use Rattle.proto_compilation.specs.Compilation.{CompiledFile, file_bytes}
use Rattle.proto_sets.specs.SetFaults.{Fault, IsLeastFault, at_position, long_set, malformed_file, many_files, nameless_file, no_row, of_set}
use Rattle.proto_sets.specs.SetSteps.{IsFirstNameless, IsNameless, malformed, empty}
use Rattle.proto_sets.specs.Sets.{AreFilesIn, AreTexts, HasName, IsNamedFile}
use Rattle.proto_sets.specs.declared.fault.SetKind.TheVariants as kind
use Rattle.proto_sets.proofs.LeastFault.{IsFirst, NoneBefore, at_order, least_of, no_later_itself}
use Rattle.proto_sets.proofs.Naming.{named_text}
use Rattle.proto_sets.proofs.OneSet.{one_name, one_texts}

-- a text of the set has a name where the files have theirs
named_in : {set : List ℕ} (placed : List CompiledFile) → AreTexts set (map file_bytes placed) → All IsNamedFile placed
    → (texts : List (List ℕ)) (at : ℕ) (text : List ℕ) → AreTexts set texts → slice_get texts at ≡ Some text
    → (name : List ℕ) × HasName text name × (name ≢ [])
named_in placed mine each texts at text are stands =
    let whole = one_texts mine are ∙ sym (take_all (length texts) texts (omega arith)) in
    named_text placed texts (length texts) whole each at text (slice_get_within texts at text stands) stands

module _ (limits : Limits) (set : List ℕ) where
  -- ---- pass by pass, where a set has passed

  pub none_of_length : length set ≤ limit_of limits limit.SetBytes → NoneBefore limits set 1
  none_of_length short _ (long_set over) less = omega (arith, short, over)
  none_of_length short y breaks less = omega (arith, less)

  pub none_of_row : {texts : List (List ℕ)} → length set ≤ limit_of limits limit.SetBytes → AreTexts set texts
      → NoneBefore limits set 2
  none_of_row {texts = texts} short are _ (no_row none) less = none texts are
  none_of_row short are y breaks less = none_of_length short y breaks (omega (arith, less))

  pub none_of_count : {texts : List (List ℕ)} → length set ≤ limit_of limits limit.SetBytes → AreTexts set texts
      → length texts ≤ limit_of limits limit.Files → NoneBefore limits set 3
  none_of_count short are few _ (many_files others also over) less =
      let same = ap length (one_texts also are) in omega (arith, few, over, same)
  none_of_count short are few y breaks less = none_of_row short are y breaks (omega (arith, less))

  -- ---- the least fault

  pub long_least : limit_of limits limit.SetBytes < length set → IsLeastFault limits set (of_set kind.SetTooLong)
  long_least over =
      least_of limits set (of_set kind.SetTooLong) (long_set over) (λ y breaks less. omega (arith, less)) own
    where
      own : IsFirst limits set (of_set kind.SetTooLong)
      own _ (long_set more) same = no_later_itself (of_set kind.SetTooLong)
      own y breaks same = absurd (omega (arith, same))

  pub row_least : length set ≤ limit_of limits limit.SetBytes
      → ((texts : List (List ℕ)) → AreTexts set texts → ⊥) → IsLeastFault limits set (of_set kind.MalformedSet)
  row_least short none =
      least_of limits set (of_set kind.MalformedSet) (no_row none) (none_of_length short) own
    where
      own : IsFirst limits set (of_set kind.MalformedSet)
      own _ (no_row also) same = no_later_itself (of_set kind.MalformedSet)
      own y breaks same = absurd (omega (arith, same))

  pub count_least : {texts : List (List ℕ)} → length set ≤ limit_of limits limit.SetBytes → AreTexts set texts
      → limit_of limits limit.Files < length texts → IsLeastFault limits set (of_set kind.TooManyFiles)
  count_least {texts = texts} short are over =
      least_of limits set (of_set kind.TooManyFiles) (many_files texts are over) (none_of_row short are) own
    where
      own : IsFirst limits set (of_set kind.TooManyFiles)
      own _ (many_files others also more) same = no_later_itself (of_set kind.TooManyFiles)
      own y breaks same = absurd (omega (arith, same))

  -- ---- files without a name

  -- none of them comes before the first
  at_most : (texts : List (List ℕ)) (at : ℕ) → ((j : ℕ) (other : List ℕ) → j < at → slice_get texts j ≡ Some other
      → (name : List ℕ) × HasName other name × (name ≢ [])) → (k : ℕ) (other : List ℕ)
      → slice_get texts k ≡ Some other → ((name : List ℕ) → HasName other name → name ≢ [] → ⊥) → (at < k) ⊎ (at ≡ k)
  at_most texts at before k other there none = elim (cases_order at k) [
    | inl same ↦ inr same
    | inr (inl less) ↦ inl less
    | inr (inr over) ↦ (let (name, has, named) = before k other over there in absurd (none name has named))
  ]

  nameless_of : {texts : List (List ℕ)} (at : ℕ) (text : List ℕ) (x : Fault)
      → length set ≤ limit_of limits limit.SetBytes → AreTexts set texts → length texts ≤ limit_of limits limit.Files
      → ((j : ℕ) (other : List ℕ) → j < at → slice_get texts j ≡ Some other
      → (name : List ℕ) × HasName other name × (name ≢ [])) → slice_get texts at ≡ Some text → IsNameless at text x
      → IsLeastFault limits set x
  nameless_of {texts = texts} at text _ short are few before stands (malformed bad) =
      least_of limits set (at_position kind.MalformedFile at) (malformed_file texts at text are stands bad)
      (none_of_count short are few) own
    where
      own : IsFirst limits set (at_position kind.MalformedFile at)
      own _ (malformed_file others k other also there wrong) same =
          let one = one_texts also are in
          at_order kind.MalformedFile kind.MalformedFile at k refl (elim (at_most texts at before k other
          (rw one at there) (λ name has named. wrong name has)) [
            | inl less ↦ inl less
            | inr here ↦ inr (here, omega arith)
          ])
      own _ (nameless_file others k other also there has) same =
          let one = one_texts also are in
          at_order kind.MalformedFile kind.FileWithoutName at k refl (elim (at_most texts at before k other
          (rw one at there) (λ name given named. named (one_name given has))) [
            | inl less ↦ inl less
            | inr here ↦ inr (here, omega arith)
          ])
      own y breaks same = absurd (omega (arith, same))
  nameless_of {texts = texts} at text _ short are few before stands (empty has) =
      least_of limits set (at_position kind.FileWithoutName at) (nameless_file texts at text are stands has)
      (none_of_count short are few) own
    where
      own : IsFirst limits set (at_position kind.FileWithoutName at)
      own _ (malformed_file others k other also there wrong) same =
          let one = one_texts also are in
          at_order kind.FileWithoutName kind.MalformedFile at k refl (elim (at_most texts at before k other
          (rw one at there) (λ name given named. wrong name given)) [
            | inl less ↦ inl less
            | inr here ↦ (
                let moved = rw (one, ← here) at there in
                let text_is : text ≡ other = cc in
                absurd (wrong [] (rw text_is at has)))
          ])
      own _ (nameless_file others k other also there none) same =
          let one = one_texts also are in
          at_order kind.FileWithoutName kind.FileWithoutName at k refl (elim (at_most texts at before k
          other (rw one at there) (λ name given named. named (one_name given none))) [
            | inl less ↦ inl less
            | inr here ↦ inr (here, omega arith)
          ])
      own y breaks same = absurd (omega (arith, same))

  pub nameless_least : {texts : List (List ℕ)} (x : Fault) → length set ≤ limit_of limits limit.SetBytes
      → AreTexts set texts → length texts ≤ limit_of limits limit.Files → IsFirstNameless texts x
      → IsLeastFault limits set x
  nameless_least x short are few first =
      nameless_of first.at first.text x short are few first.before first.stands first.wrong

  pub none_of_files : {placed : List CompiledFile} → AreFilesIn limits set placed → NoneBefore limits set 4
  none_of_files {placed = placed} is _ (malformed_file texts at text are stands bad) less =
      let (name, has, named) = named_in placed is.texts is.each texts at text are stands in bad name has
  none_of_files {placed = placed} is _ (nameless_file texts at text are stands none) less =
      let (name, has, named) = named_in placed is.texts is.each texts at text are stands in named (one_name has none)
  none_of_files {placed = placed} is y breaks less =
      none_of_count is.short is.texts (omega (arith, is.few, length-map placed file_bytes)) y breaks (omega (arith, less))
