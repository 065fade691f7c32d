-- Which faults of sources are told.
use Rattle.std.specs.Prelude.{◌≡◌, ◌-◌, ◌^◌, ◌<◌, ◌≤◌, List, [], ◌∷◌, Option, None, Some, Contains, length, map, string_bytes}
use Rattle.file_faults.specs.PassFaults.{AreFaultsFrom}
use Rattle.proto_base.specs.declared.fault.Fault.{Fault}
use Rattle.proto_base.specs.declared.limits.Limits.{Limits}
use Rattle.proto_compilation.specs.Compilation.{Compilation}
use Rattle.proto_compile.specs.Compiled.{IsCompiled}
use Rattle.proto_compile.specs.FaultSet.{IsLeastFault, IsPlaced, told_by}
use Rattle.proto_compile.specs.Sources.{name_of, text_of}
use Rattle.proto_compile.specs.declared.source.Source.{Source}

-- none, where the sources are compiled; else the first of all faults, and all others that are told with it
abbrev pub AreTold : Limits → List Source → List Fault → Type 0
AreTold limits sources [] = (c : Compilation) × IsCompiled limits sources c
AreTold limits sources (f ∷ faults) = IsLeastFault limits sources (told_by f)
    × AreFaultsFrom limits sources (told_by f) (map told_by (f ∷ faults))

-- the fault lies within each source that has the name of its file
pub record LiesWithin (sources : List Source) (f : Fault) : Type 0 where
  pub within : (s : Source) → Contains sources s → name_of s ≡ string_bytes f.file
      → f.place.offset ≤ length (text_of s)
  pub short : f.place.offset < 2 ^ 32 - 1

abbrev pub ArePlaced : List Source → List Fault → Type 0
ArePlaced sources faults = (f : Fault) → Contains faults f → LiesWithin sources f

-- what is found at first: the least of all faults, or nothing where the sources are compiled
abbrev pub IsFirst : Limits → List Source → Option Fault → Type 0
IsFirst limits sources None = (c : Compilation) × IsCompiled limits sources c
IsFirst limits sources (Some f) =
    IsLeastFault limits sources (told_by f) × IsPlaced limits sources (string_bytes f.file) f.place
