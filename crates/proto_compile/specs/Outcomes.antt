-- Words of private contracts: what a pass finds in each file, and the first fault of it.
use Rattle.std.specs.Prelude.{◌≡◌, ℕ, ◌<◌, List, length, slice_index_or, Result, Ok, Err, Some, Vec, true}
use Rattle.std.specs.List.{AllZip}
use Rattle.std.specs.declared.alloc.Global.{Global}
use Rattle.proto_base.specs.FileFaults.{TellsFirst, at_step}
use Rattle.proto_base.specs.Least.{IsLeast, spot}
use Rattle.proto_base.specs.Limits.{limit_of}
use Rattle.proto_base.specs.declared.spot.Spot.{Spot}
use Rattle.proto_base.specs.declared.file_fault.FileError.{FileError}
use Rattle.proto_base.specs.declared.file_fault.FileError.TheVariants as fault
use Rattle.proto_base.specs.declared.file_fault.FileFault.{FileFault}
use Rattle.proto_base.specs.declared.kind.Kind.TheVariants as kind
use Rattle.proto_base.specs.declared.limits.Limit.TheVariants as limit
use Rattle.proto_base.specs.declared.limits.Limits.{Limits}
use Rattle.proto_desc.specs.Resolved.{file_resolved}
use Rattle.proto_desc.specs.declared.file.FileDesc.{FileDesc}
use Rattle.proto_file.specs.Local.{IsLocalFault}
use Rattle.proto_links.specs.Linked.{Linked}
use Rattle.proto_names.specs.Index.{Index}
use Rattle.proto_names.specs.Resolution.{SeenBy}
use Rattle.proto_types.specs.References.{references}
use Rattle.proto_types.specs.Typed.{Means}
use Rattle.proto_types.specs.declared.meaning.NamedType.{NamedType}
use Rattle.wire_bytes.specs.Descriptor.{file_desc_bytes}
use Rattle.proto_compile.specs.Analysed.{TypesAt, TypesBreakAt}
use Rattle.proto_compile.specs.Compiled.{IsShort}
use Rattle.proto_compile.specs.Descriptions.{SourceDescribes}
use Rattle.proto_compile.specs.FaultSet.{SourceFault, fault as source_fault, start}
use Rattle.proto_compile.specs.Faults.{Tells}
use Rattle.proto_compile.specs.Sources.{name_at, name_of, text_of}
use Rattle.proto_compile.specs.declared.error.CompileError.{CompileError}
use Rattle.proto_compile.specs.declared.error.CompileError.TheVariants as errors
use Rattle.proto_compile.specs.declared.source.Source.{Source}

-- ---- what a pass finds in one file

-- a file breaks no rule of types, and this is what its names of types mean
abbrev pub AreTypesOf : Linked → Index → ℕ → FileDesc → Vec NamedType Global → Type 0
AreTypesOf links index a desc types = ((x : Spot) → TypesBreakAt links index a desc x → ⊥)
    × AllZip (Means index.occurrences (SeenBy links a)) (references desc) types.items

-- a descriptor with its types, all of them resolved
abbrev pub IsTypedWhole : Linked → Index → ℕ → FileDesc → FileDesc → Type 0
IsTypedWhole links index a desc typed = TypesAt links index a desc typed × (file_resolved typed ≡ true)

-- what a source describes, or its first fault by itself
abbrev pub IsDescribed : Limits → Source → Result FileDesc FileError → Type 0
IsDescribed limits s (Ok desc) = SourceDescribes limits s desc
IsDescribed limits s (Err e) = TellsFirst (IsLocalFault limits (name_of s) (text_of s)) e

-- what the names of types in the file at a position mean, or the first rule of types that it breaks
abbrev pub IsResolved : Linked → Index → ℕ → FileDesc → Result (Vec NamedType Global) FileError → Type 0
IsResolved links index a desc (Ok types) = AreTypesOf links index a desc types
IsResolved links index a desc (Err e) =
    TellsFirst (λ f. (f.step ≡ 0) × IsLeast (TypesBreakAt links index a desc) (Some f.spot)) e

-- the bytes of a descriptor, or that there are too many
abbrev pub IsWrittenShort : Limits → FileDesc → Result (Vec ℕ Global) FileError → Type 0
IsWrittenShort limits desc (Ok bytes) = (bytes.items ≡ file_desc_bytes desc) × IsShort limits desc
IsWrittenShort limits desc (Err e) = TellsFirst (λ f. (f ≡ at_step 0 (spot start kind.DescriptorTooLong))
    × (limit_of limits limit.DescriptorBytes < length (file_desc_bytes desc))) e

-- ---- the first fault of a pass

-- the error is for want of memory, or tells this fault of a file of this name
abbrev pub TellsOfFile : ℕ → List ℕ → FileError → CompileError → Type 0
TellsOfFile pass file (fault.First f) e = Tells (source_fault pass file f) e
TellsOfFile pass file fault.NoMemory e = e ≡ errors.NoMemory

-- what a pass of this number finds in the first file that has a fault
pub record IsFirstFound {T : Type 0} (number : ℕ) (files : List Source) (outcomes : List (Result T FileError))
    (x : SourceFault) : Type 0 where
  pub at : ℕ
  pub found : FileFault
  pub well : (j : ℕ) → j < at → (t : T) × (slice_index_or outcomes j (Err fault.NoMemory) ≡ Ok t)
  pub below : at < length outcomes
  pub bad : slice_index_or outcomes at (Err fault.NoMemory) ≡ Err (fault.First found)
  pub is : x ≡ source_fault number (name_at files at) found
