-- Failures that are handed on.
use Rattle.std.proofs.Common.{◌≡◌, ap, Result, Err, Ok, IsErrAnd, Option, inl, inr, refl}
use Rattle.proto_base.specs.declared.limits.Limits.{Limits}
use Rattle.schema_compile.specs.Told.{IsToldOfFolder}
use Rattle.schema_failure.specs.Faults.{of_folder, of_folder_fault}
use Rattle.schema_failure.specs.declared.failure.Failure.{Failure}
use Rattle.schema_sources.specs.Texts.{KnownSources}
use Rattle.source_folder.specs.declared.fault.FolderFault.{FolderFault}
use Rattle.source_folder.specs.declared.fault.FolderFault.TheVariants as faults
use Rattle.source_folder.specs.declared.trouble.FolderTrouble.{FolderTrouble}
use Rattle.source_folder.specs.declared.trouble.TroubledEntry.{TroubledEntry}

-- what a `?` hands on
pub handed_on : {A : Type 0} (r : Result A Failure) (f : Failure) → IsErrAnd r (λ e. e ≡ f) → r ≡ Err f
handed_on (Ok a) f handed = absurd handed
handed_on (Err e) f handed = ap (λ x. Err x) handed

unread_by : (limits : Limits) (known : KnownSources) (fault : FolderFault) (entry : Option TroubledEntry)
    → IsToldOfFolder limits known (of_folder_fault fault entry)
unread_by limits known faults.Listing entry = inl (entry, refl)
unread_by limits known faults.Reading entry = inl (entry, refl)
unread_by limits known faults.NoMemory entry = inr (inl refl)

pub unread_folder : (limits : Limits) (known : KnownSources) (trouble : FolderTrouble)
    → IsToldOfFolder limits known (of_folder trouble)
unread_folder limits known trouble = unread_by limits known trouble.fault trouble.entry
