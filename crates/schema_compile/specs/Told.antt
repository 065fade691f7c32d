-- What is told of sources that are not compiled.
use Rattle.std.specs.Prelude.{◌≡◌, List, ◌⊎◌}
use Rattle.proto_base.specs.declared.fault.Fault.{Fault}
use Rattle.proto_base.specs.declared.limits.Limits.{Limits}
use Rattle.proto_compile.specs.FaultSet.{IsLeastFault, told_by}
use Rattle.proto_compile.specs.declared.source.Source.{Source}
use Rattle.schema_compile.specs.Placed.{located}
use Rattle.schema_failure.specs.Faults.{IsUnread}
use Rattle.schema_failure.specs.declared.failure.Failure.{Failure}
use Rattle.schema_failure.specs.declared.failure.Failure.TheVariants as failure
use Rattle.schema_compile.specs.Sources.{AreSourcesOf}
use Rattle.schema_sources.specs.Texts.{AreTextsOf, KnownSources}
use Rattle.source_folder.specs.declared.folder.NamedText.{NamedText}

-- the failure is the line and the column of the sources' first fault, or for want of memory
abbrev pub IsToldOf : Limits → List Source → Failure → Type 0
IsToldOf limits sources (failure.Source file line column kind) =
    (fault : Fault) × (failure.Source file line column kind ≡ located sources fault)
    × IsLeastFault limits sources (told_by fault)
IsToldOf limits sources failure.NoMemory = Unit {0}
IsToldOf limits sources other = ⊥

-- the same of texts that were read
abbrev pub IsToldOfTexts : Limits → List NamedText → Failure → Type 0
IsToldOfTexts limits texts f =
    (f ≡ failure.NoMemory) ⊎ ((sources : List Source) × AreSourcesOf texts sources × IsToldOf limits sources f)

-- the failure is that the folder could not be read, want of memory, or the first fault of the folder's texts
abbrev pub IsToldOfFolder : Limits → KnownSources → Failure → Type 0
IsToldOfFolder limits known f = IsUnread f ⊎ ((f ≡ failure.NoMemory)
    ⊎ ((texts : List NamedText) × AreTextsOf limits known texts × IsToldOfTexts limits texts f))
