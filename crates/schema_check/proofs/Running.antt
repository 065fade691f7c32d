-- From what was read, judged and written to what a run of `check` did.
use Rattle.std.proofs.Common.{◌≡◌, ◌⊎◌, ℕ, List, Option, Result, Ok, Err, IsErrAnd, inl, inr, refl, subst, sym}
use Rattle.counted_io.specs.Runs.{IsWriteRun}
use Rattle.counted_io.specs.Streams.{Writes}
use Rattle.counted_io.specs.declared.stream.IoFault.{IoFault}
use Rattle.counted_io.specs.declared.stream.IoFault.TheVariants as io
use Rattle.fault_report.specs.declared.form.Form.{Form}
use Rattle.proto_base.specs.declared.limits.Limits.{Limits}
use Rattle.schema_check.specs.Runs.{IsCheckRun, IsFound}
use Rattle.schema_failure.specs.Faults.{IsUnread, of_exchange, of_folder, of_folder_fault}
use Rattle.schema_failure.specs.declared.failure.Failure.{Failure}
use Rattle.schema_failure.specs.declared.failure.Failure.TheVariants as failure
use Rattle.schema_failure.specs.declared.failure.Verdict.{Verdict}
use Rattle.schema_sources.specs.declared.places.Places.{Places}
use Rattle.skipped_sources.specs.declared.options.CustomOptions.{CustomOptions}
use Rattle.source_folder.specs.declared.fault.FolderFault.{FolderFault}
use Rattle.source_folder.specs.declared.fault.FolderFault.TheVariants as faults
use Rattle.source_folder.specs.declared.folder.NamedText.{NamedText}
use Rattle.source_folder.specs.declared.trouble.FolderTrouble.{FolderTrouble}
use Rattle.source_folder.specs.declared.trouble.TroubledEntry.{TroubledEntry}

abbrev failed : Failure → Result Verdict Failure
failed f = Err f

-- what a `?` hands on of a writing that failed
pub unwritten : (options : CustomOptions) (form : Form) (limits : Limits) (places : Places) (texts : List NamedText)
    (old new : Writes) (judged : Verdict) (report : List ℕ) (fault : IoFault) (r : Result Verdict Failure) → IsErrAnd r (λ e. e ≡ of_exchange fault)
    → IsFound options form limits places texts judged report → IsWriteRun {A = Unit {0}} old new report (Err fault)
    → IsCheckRun options form limits places texts old new r
unwritten options form limits places texts old new judged report fault (Ok a) handed is run = absurd handed
unwritten options form limits places texts old new judged report io.ReadFault (Err e) handed is run = absurd run
unwritten options form limits places texts old new judged report (io.WriteFault written) (Err e) handed is run =
    let P : Failure → Type 0 = λ x. IsCheckRun options form limits places texts old new (failed x) in
    subst P (sym handed) (judged, report, is, written, run)
unwritten options form limits places texts old new judged report io.NoMemory (Err e) handed is run = absurd run

-- and of a folder that could not be read
unread_by : (writes : Writes) (fault : FolderFault) (entry : Option TroubledEntry) (r : Result Verdict Failure)
    → IsErrAnd r (λ e. e ≡ of_folder_fault fault entry)
    → IsErrAnd r (λ f. (IsUnread f ⊎ (f ≡ failure.NoMemory)) × (writes ≡ writes))
unread_by writes fault entry (Ok a) handed = absurd handed
unread_by writes faults.Listing entry (Err e) handed = (inl (entry, handed), refl)
unread_by writes faults.Reading entry (Err e) handed = (inl (entry, handed), refl)
unread_by writes faults.NoMemory entry (Err e) handed = (inr handed, refl)

pub unread : (writes : Writes) (trouble : FolderTrouble) (r : Result Verdict Failure)
    → IsErrAnd r (λ e. e ≡ of_folder trouble)
    → IsErrAnd r (λ f. (IsUnread f ⊎ (f ≡ failure.NoMemory)) × (writes ≡ writes))
unread writes trouble = unread_by writes trouble.fault trouble.entry

-- and of want of memory
pub short : (writes : Writes) (r : Result Verdict Failure) → IsErrAnd r (λ e. e ≡ failure.NoMemory)
    → IsErrAnd r (λ f. (IsUnread f ⊎ (f ≡ failure.NoMemory)) × (writes ≡ writes))
short writes (Ok a) handed = absurd handed
short writes (Err e) handed = (inr handed, refl)
