-- What a run of `check` found and wrote, by how it ended.
use Rattle.std.specs.Prelude.{◌≡◌, ◌⊎◌, ℕ, List, [], ◌∷◌, IsErrAnd, Result, Ok, Err}
use Rattle.counted_io.specs.Runs.{IsWritten, IsWrittenInPart}
use Rattle.counted_io.specs.Streams.{Writes}
use Rattle.fault_report.specs.declared.form.Form.{Form}
use Rattle.proto_base.specs.declared.fault.Fault.{Fault}
use Rattle.proto_base.specs.declared.limits.Limits.{Limits}
use Rattle.proto_compile.specs.declared.source.Source.{Source}
use Rattle.schema_check.specs.Reports.{IsReport}
use Rattle.schema_check.specs.Told.{AreTold}
use Rattle.schema_check.specs.Written.{AreShownAs}
use Rattle.schema_failure.specs.Faults.{IsUnread}
use Rattle.schema_failure.specs.declared.failure.Device.TheVariants as device
use Rattle.schema_failure.specs.declared.failure.Failure.{Failure}
use Rattle.schema_failure.specs.declared.failure.Failure.TheVariants as failure
use Rattle.schema_failure.specs.declared.failure.Verdict.{Verdict}
use Rattle.schema_failure.specs.declared.failure.Verdict.TheVariants as verdict
use Rattle.schema_sources.specs.declared.places.Places.{Places}
use Rattle.schema_compile.specs.Sources.{AreSourcesOf}
use Rattle.schema_sources.specs.Texts.{AreStandard, AreTextsOf, KnownSources}
use Rattle.skipped_sources.specs.declared.options.CustomOptions.{CustomOptions}
use Rattle.source_folder.specs.declared.folder.NamedText.{NamedText}

abbrev pub verdict_of : List Fault → Verdict
verdict_of [] = verdict.Sound
verdict_of (f ∷ faults) = verdict.Faulty

-- what is said of faults of sources, by their texts as they are shown
abbrev pub IsShownReport : CustomOptions → Form → Limits → Places → List Source → List Fault → List ℕ → Type 0
IsShownReport options form limits places sources faults report =
    (shown : List Source) × AreShownAs options sources shown × IsReport form limits places shown faults report

-- which faults sources have, and what is said of them
abbrev pub AreFindings : CustomOptions → Form → Limits → Places → List Source → Verdict → List ℕ → Type 0
AreFindings options form limits places sources judged report = (faults : List Fault) × AreTold limits sources faults
    × (judged ≡ verdict_of faults) × IsShownReport options form limits places sources faults report

abbrev pub IsFound : CustomOptions → Form → Limits → Places → List NamedText → Verdict → List ℕ → Type 0
IsFound options form limits places texts judged report =
    (sources : List Source) × AreSourcesOf texts sources × AreFindings options form limits places sources judged report

-- the report was written whole; or memory was short, and nothing was; or a call of the writer failed
abbrev pub IsCheckRun : CustomOptions → Form → Limits → Places → List NamedText → Writes → Writes
    → Result Verdict Failure → Type 0
IsCheckRun options form limits places texts old new (Ok judged) =
    (report : List ℕ) × IsFound options form limits places texts judged report × IsWritten old new report
IsCheckRun options form limits places texts old new (Err failure.NoMemory) = new ≡ old
IsCheckRun options form limits places texts old new (Err (failure.Device device.Output error)) =
    (judged : Verdict) × (report : List ℕ) × IsFound options form limits places texts judged report
    × (written : ℕ) × IsWrittenInPart old new report written
IsCheckRun options form limits places texts old new (Err other) = ⊥

-- `check`: the folder could not be read, or memory was short, and nothing was written; or its texts were checked, some
-- of which may lie elsewhere than in the root
abbrev pub IsFolderCheck : KnownSources → Form → List ℕ → Writes → Writes → Result Verdict Failure → Type 0
IsFolderCheck known form root old new done =
    (limits : Limits) × AreStandard limits
    × (IsErrAnd done (λ f. (IsUnread f ⊎ (f ≡ failure.NoMemory)) × (new ≡ old))
    ⊎ ((texts : List NamedText) × AreTextsOf limits known texts × (places : Places) × (places.root.now ≡ root)
    × IsCheckRun known.custom_options form limits places texts old new done))
