-- Where the faults of sources by themselves stand.
use Rattle.std.proofs.Common.{◌≡◌, ◌∙◌, sym, ap, ◌≤◌, inl, inr, List, length, Contains}
use Rattle.std.proofs.lemmas.Bool.{cases_order}
use Rattle.proto_base.specs.Limits.{limit_of}
use Rattle.proto_base.specs.declared.limits.Limit.TheVariants as limit
use Rattle.proto_base.specs.declared.limits.Limits.{Limits}
use Rattle.proto_compile.specs.FaultSet.{SourceFault}
use Rattle.proto_compile.specs.Sources.{name_of, text_of}
use Rattle.proto_compile.specs.declared.source.Source.{Source}
use Rattle.proto_compile.proofs.OneTyping.{standing_one}
use Rattle.proto_compile.proofs.Sorting.{name_of_item}
use Rattle.proto_file.proofs.LocalPlaces.{fault_inside}
use Rattle.file_faults.specs.OwnFaults.{AreFileFaults, NamesDiffer}
use Rattle.file_faults.proofs.Telling.{no_other}

-- of sources whose names differ, only one has a name
one_of_name : (files : List Source) (s t : Source) → NamesDiffer files → Contains files s → Contains files t
    → name_of s ≡ name_of t → s ≡ t
one_of_name files s t differ (i, first, is) (j, second, also) same =
    let left = name_of_item files i s first (sym is) in
    let right = name_of_item files j t second (sym also) in
    elim (cases_order i j) [
      | inl here ↦ standing_one files i s t first is (rw here also)
      | inr (inl less) ↦ absurd (differ i j less second (cc))
      | inr (inr over) ↦ absurd (differ j i over first (cc))
    ]

pub placed : (limits : Limits) (files : List Source) (xs : List SourceFault) (x : SourceFault) (s : Source)
    → NamesDiffer files → AreFileFaults limits files xs → Contains xs x → Contains files s → name_of s ≡ x.file
    → (x.place.offset ≤ length (text_of s)) × (x.place.offset ≤ limit_of limits limit.FileBytes)
placed limits files xs x s differ all told inside name =
    let (t, there, (f, found, is)) = no_other limits files xs x all told in
    let one = one_of_name files s t differ inside there (name ∙ ap (λ (y : SourceFault). y.file) is) in
    let stands = fault_inside limits (name_of t) (text_of t) f found in
    rw (is, one) (stands.within, stands.short)
