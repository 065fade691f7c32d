-- What a set that stands in a file is compiled to, or what is told of it. What the file has is not known.
use Rattle.std.specs.Prelude.{◌≡◌, ℕ, List, ◌++◌, codes, decimal, string_bytes}
use Rattle.proto_base.specs.declared.limits.Limits.{Limits}
use Rattle.proto_compilation.specs.Compilation.{Compilation}
use Rattle.proto_sets.specs.SetFaults.{IsLeastFault, told_by}
use Rattle.proto_sets.specs.Sets.{IsOfSet}
use Rattle.proto_sets.specs.declared.fault.FaultyFile.{FaultyFile}
use Rattle.proto_sets.specs.declared.fault.FaultyFile.TheVariants.{WholeSet, At, Named}
use Rattle.proto_sets.specs.declared.fault.SetFault.{SetFault}
use Rattle.schema_failure.specs.declared.failure.Device.TheVariants as device
use Rattle.schema_failure.specs.declared.failure.Failure.{Failure}
use Rattle.schema_failure.specs.declared.failure.Failure.TheVariants as failure

-- it is what some set says
abbrev pub IsOfSomeSet : Limits → Compilation → Type 0
IsOfSomeSet limits c = (set : List ℕ) × IsOfSet limits set c

-- the file of a fault of the set at a path, as users see it
abbrev pub file_text : List ℕ → FaultyFile → List ℕ
file_text path WholeSet = path
file_text path (At position) = path ++ (codes ", file[" ++ (decimal position ++ codes "]"))
file_text path (Named name) = string_bytes name

-- the failure is the first fault of some set, or that the set at the path could not be read, or for want of memory
abbrev pub IsToldOfSet : Limits → List ℕ → Failure → Type 0
IsToldOfSet limits path (failure.Set file kind) =
    (set : List ℕ) × (fault : SetFault) × IsLeastFault limits set (told_by fault)
    × (string_bytes file ≡ file_text path fault.file) × (kind ≡ fault.kind)
IsToldOfSet limits path (failure.Device device.Set error) = Unit {0}
IsToldOfSet limits path failure.NoMemory = Unit {0}
IsToldOfSet limits path other = ⊥
