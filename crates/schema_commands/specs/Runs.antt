-- What a run of a command read and wrote, by how it ended.
use Rattle.std.specs.Prelude.{◌≡◌, ℕ, suc, ◌+◌, List, [], ◌∷◌, ◌++◌, ◌⊎◌, Option, Some, None, Result, Ok, Err, IsErrAnd}
use Rattle.first_reach.specs.declared.mode.Mode.{Mode}
use Rattle.counted_io.specs.Runs.{IsRead, IsWritten, IsWrittenInPart}
use Rattle.grpcweb_core.specs.Exchange.{IsExchange}
use Rattle.counted_io.specs.Streams.{Reads, Writes}
use Rattle.counted_io.specs.declared.stream.IoFault.{IoFault}
use Rattle.hex.specs.Hex.{encode_lower}
use Rattle.proto_base.specs.Limits.{limit_of}
use Rattle.proto_base.specs.declared.limits.Limit.TheVariants.{FileBytes}
use Rattle.proto_base.specs.declared.limits.Limits.{Limits}
use Rattle.proto_compilation.specs.Compilation.{Compilation}
use Rattle.proto_compile.specs.Sources.{name_of, text_of}
use Rattle.proto_compile.specs.declared.source.Source.{Source}
use Rattle.schema_compile.specs.Compiled.{IsCompiledTo}
use Rattle.schema_compile.specs.Told.{IsToldOf, IsToldOfFolder}
use Rattle.schema_explanation.specs.Page.{page_of}
use Rattle.schema_explanation.specs.declared.topic.Topic.{Topic}
use Rattle.schema_failure.specs.Faults.{IsOfDevice, of_exchange}
use Rattle.schema_failure.specs.declared.failure.Device.TheVariants as device
use Rattle.schema_failure.specs.declared.failure.Failure.{Failure}
use Rattle.schema_failure.specs.declared.failure.Failure.TheVariants as failure
use Rattle.schema_headline.specs.Describe.{IsDescribedBy}
use Rattle.schema_headline.specs.Headline.{IsSetOf}
use Rattle.schema_compile.specs.Sources.{AreSourcesOf}
use Rattle.schema_set.specs.Sets.{IsOfSomeSet, IsToldOfSet}
use Rattle.schema_sources.specs.Texts.{AreStandard, AreTextsOf, KnownSources}
use Rattle.source_folder.specs.declared.folder.NamedText.{NamedText}

-- the hexadecimal digits of the source's descriptor
abbrev pub IsDigitsOf : Limits → Source → List ℕ → Type 0
IsDigitsOf limits source digits = (bytes : List ℕ) × IsDescribedBy limits source bytes × (digits ≡ encode_lower bytes)

-- the source of this name whose text was read: all that a reader gave, or one byte more than the limit
pub record IsInput (name : List ℕ) (reads reads' : Reads) (limits : Limits) (source : Source) : Type 0 where
  pub standard : AreStandard limits
  pub named : name_of source ≡ name
  pub read : IsRead (limit_of limits FileBytes + 1) reads reads' (text_of source)

-- the line of a source: the digits of its descriptor, and a line feed
abbrev pub IsLineOf : Limits → Source → List ℕ → Type 0
IsLineOf limits source line = (digits : List ℕ) × IsDigitsOf limits source digits × (line ≡ digits ++ 10 ∷ [])

-- `describe`: the line of the source that was read; or its first fault, and nothing written; or a call that failed
abbrev pub IsDescribeRun : {A : Type 0} → List ℕ → Reads → Reads → Writes → Writes → Result A Failure → Type 0
IsDescribeRun name reads reads' writes writes' (Ok a) =
    (limits : Limits) × (source : Source) × IsInput name reads reads' limits source
    × (line : List ℕ) × IsLineOf limits source line × IsWritten writes writes' line
IsDescribeRun name reads reads' writes writes' (Err (failure.Source file line column kind)) =
    (limits : Limits) × (source : Source) × IsInput name reads reads' limits source
    × IsToldOf limits (source ∷ []) (failure.Source file line column kind) × (writes' ≡ writes)
IsDescribeRun name reads reads' writes writes' (Err (failure.Device device.Input error)) =
    (reads'.failures ≡ suc reads.failures) × (writes' ≡ writes)
IsDescribeRun name reads reads' writes writes' (Err failure.NoMemory) =
    (reads'.failures ≡ reads.failures) × (writes' ≡ writes)
IsDescribeRun name reads reads' writes writes' (Err (failure.Device device.Output error)) =
    (limits : Limits) × (source : Source) × IsInput name reads reads' limits source
    × (line : List ℕ) × IsLineOf limits source line × (written : ℕ) × IsWrittenInPart writes writes' line written
IsDescribeRun name reads reads' writes writes' (Err other) = ⊥

abbrev pub IsSetOfTexts : Limits → List NamedText → List ℕ → Type 0
IsSetOfTexts limits texts set = (sources : List Source) × AreSourcesOf texts sources × IsSetOf limits sources set

-- all of these bytes were written; or the first so many, and then a call failed
abbrev pub IsOutput : {B : Type 0} → Writes → Writes → List ℕ → Result B Failure → Type 0
IsOutput writes writes' bytes (Ok b) = IsWritten writes writes' bytes
IsOutput writes writes' bytes (Err f) =
    IsOfDevice device.Output f × (written : ℕ) × IsWrittenInPart writes writes' bytes written

-- how a set was written: to the writer; or to the file that is named, which may be where the writer writes, behind the
-- file of its rule
abbrev pub IsSetRun : {A B : Type 0} → Option A → Writes → Writes → List ℕ → Result B Failure → Type 0
IsSetRun None writes writes' set done = IsOutput writes writes' set done
IsSetRun (Some file) writes writes' set (Ok b) = (writes' ≡ writes) ⊎ IsWritten writes writes' set
IsSetRun (Some file) writes writes' set (Err f) =
    ((IsOfDevice device.Output f ⊎ IsOfDevice device.Dependencies f ⊎ (f ≡ failure.NoMemory)) × (writes' ≡ writes))
    ⊎ (IsOfDevice device.Output f × (written : ℕ) × IsWrittenInPart writes writes' set written)

-- `compile`: the set of the folder's texts is written; or their first fault is told, and nothing written
abbrev pub IsCompileRun : {A B : Type 0} → KnownSources → Option A → Writes → Writes → Result B Failure → Type 0
IsCompileRun known file writes writes' done =
    (limits : Limits) × AreStandard limits
    × (IsErrAnd done (λ f. IsToldOfFolder limits known f × (writes' ≡ writes))
    ⊎ ((texts : List NamedText) × AreTextsOf limits known texts × (set : List ℕ) × IsSetOfTexts limits texts set
    × IsSetRun file writes writes' set done))

-- the exchange over a compilation, by how the command ended
abbrev pub IsExchanged : {A : Type 0} → Mode → Compilation → Reads → Reads → Writes → Writes → Result A Failure → Type 0
IsExchanged mode c reads reads' writes writes' (Ok a) =
    IsExchange {A = Unit {0}} mode c reads reads' writes writes' (Ok tt)
IsExchanged mode c reads reads' writes writes' (Err f) =
    (fault : IoFault) × (f ≡ of_exchange fault)
    × IsExchange {A = Unit {0}} mode c reads reads' writes writes' (Err fault)

-- `answer` over a compilation of which this is so: the exchange; or it is told why there is none, and nothing is read or
-- written
abbrev pub IsAnswerOver : {A : Type 0} → (Limits → Compilation → Type 0) → (Limits → Failure → Type 0) → Mode → Reads
    → Reads → Writes → Writes → Result A Failure → Type 0
IsAnswerOver IsMade IsTold mode reads reads' writes writes' done =
    (limits : Limits) × AreStandard limits
    × (IsErrAnd done (λ f. IsTold limits f × (reads' ≡ reads) × (writes' ≡ writes))
    ⊎ ((c : Compilation) × IsMade limits c × IsExchanged mode c reads reads' writes writes' done))

-- over what the folder's texts are compiled to, or their first fault
abbrev pub IsAnswerRun : {A : Type 0} → KnownSources → Mode → Reads → Reads → Writes → Writes → Result A Failure
    → Type 0
IsAnswerRun known = IsAnswerOver (λ limits c. IsCompiledTo limits known c) (λ limits f. IsToldOfFolder limits known f)

-- over what the set at a path says, or its first fault
abbrev pub IsSetAnswerRun : {A : Type 0} → List ℕ → Mode → Reads → Reads → Writes → Writes → Result A Failure → Type 0
IsSetAnswerRun path = IsAnswerOver IsOfSomeSet (λ limits f. IsToldOfSet limits path f)

-- `explain`: what is said of the topic, or of all, is written; or memory was short, and nothing is
abbrev pub IsExplainRun : {A : Type 0} → Option Topic → Writes → Writes → Result A Failure → Type 0
IsExplainRun topic writes writes' done =
    IsErrAnd done (λ f. (f ≡ failure.NoMemory) × (writes' ≡ writes)) ⊎ IsOutput writes writes' (page_of topic) done
