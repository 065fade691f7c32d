-- The faults of sources by themselves.
use Rattle.std.specs.Prelude.{◌≡◌, ℕ, ◌<◌, ◌↔◌, List, [], ◌∷◌, ◌++◌, AllPairs, Contains, length, map}
use Rattle.proto_base.specs.FileFaults.{IsEarlier}
use Rattle.proto_base.specs.declared.file_fault.FileFault.{FileFault}
use Rattle.proto_base.specs.declared.limits.Limits.{Limits}
use Rattle.proto_compile.specs.FaultSet.{SourceFault, fault}
use Rattle.proto_compile.specs.Sources.{name_at, name_of, text_of}
use Rattle.proto_compile.specs.declared.source.Source.{Source}
use Rattle.proto_file.specs.Local.{IsOwnFault}

-- exactly the faults of one source by itself, each once, by step, place and the kind's number
pub record AreOwnFaults (limits : Limits) (s : Source) (faults : List FileFault) : Type 0 where
  pub all : (f : FileFault) → Contains faults f ↔ IsOwnFault limits (name_of s) (text_of s) f
  pub order : AllPairs IsEarlier faults

-- those of each source with its name, in the order of the sources
pub data AreFileFaults (limits : Limits) : List Source → List SourceFault → Type 0 where
  none : AreFileFaults limits [] []
  more : (s : Source) (own : List FileFault) (files : List Source) (faults : List SourceFault)
      → AreOwnFaults limits s own → AreFileFaults limits files faults
      → AreFileFaults limits (s ∷ files) (map (fault 1 (name_of s)) own ++ faults)

-- the fault is one of the source by itself
abbrev pub HasFault : Limits → Source → SourceFault → Type 0
HasFault limits s x =
    (f : FileFault) × IsOwnFault limits (name_of s) (text_of s) f × (x ≡ fault 1 (name_of s) f)

-- no two sources have one name
abbrev pub NamesDiffer : List Source → Type 0
NamesDiffer files = (i j : ℕ) → i < j → j < length files → name_at files i ≡ name_at files j → ⊥
