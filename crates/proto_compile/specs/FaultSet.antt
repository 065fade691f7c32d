-- The faults of sources: what breaks a rule of a pass, what of it is judged, and the first.
use Rattle.std.specs.Prelude.{◌≡◌, ◌≢◌, ◌⊎◌, ℕ, ◌<◌, ◌≤◌, List, [], length, string_bytes, Contains}
use Rattle.std.specs.List.{AllZip}
use Rattle.std.specs.declared.cmp.Ordering.TheVariants.{Greater, Less}
use Rattle.proto_base.specs.Fault.{Found, found_cmp}
use Rattle.proto_base.specs.FileFaults.{at_step}
use Rattle.proto_base.specs.Kind.{number_of}
use Rattle.proto_base.specs.Least.{IsLeastBy, spot}
use Rattle.proto_base.specs.Limits.{limit_of}
use Rattle.proto_base.specs.Sets.{StandsAt}
use Rattle.proto_base.specs.declared.fault.Fault.{Fault}
use Rattle.proto_base.specs.declared.file_fault.FileFault.{FileFault}
use Rattle.proto_base.specs.declared.kind.Kind.{Kind}
use Rattle.proto_base.specs.declared.kind.Kind.TheVariants as kind
use Rattle.proto_base.specs.declared.limits.Limit.TheVariants as limit
use Rattle.proto_base.specs.declared.limits.Limits.{Limits}
use Rattle.proto_base.specs.declared.place.Place.{Place}
use Rattle.proto_desc.specs.declared.file.FileDesc.{FileDesc}
use Rattle.proto_file.specs.Local.{IsOwnFault}
use Rattle.proto_links.specs.Imports as imports
use Rattle.proto_links.specs.Linked.{Linked}
use Rattle.proto_links.specs.Visible.{Sees}
use Rattle.proto_names.specs.Index.{Index}
use Rattle.proto_names.specs.Occurrences.{IsTwice, Occurrence, occurrences}
use Rattle.proto_types.specs.References.{TypesBreak}
use Rattle.wire_bytes.specs.Descriptor.{file_desc_bytes}
use Rattle.proto_compile.specs.Analysed.{AreResolved}
use Rattle.proto_compilation.specs.Compilation.{Compilation, set_of}
use Rattle.proto_compile.specs.Compiled.{IsWritten}
use Rattle.proto_compile.specs.Descriptions.{SourceDescribes}
use Rattle.proto_compile.specs.Sources.{AreByName, name_at, name_of, text_of}
use Rattle.proto_compile.specs.declared.error.CompileError.{CompileError}
use Rattle.proto_compile.specs.declared.error.CompileError.TheVariants as errors
use Rattle.proto_compile.specs.declared.source.Source.{Source}

-- a fault: the pass that finds it, the name of its file, its step and its place there, and what it is
pub record SourceFault : Type 0 where
  pub pass : ℕ
  pub file : List ℕ
  pub step : ℕ
  pub place : Place
  pub kind : Kind

abbrev pub start : Place
start = record { offset = 0 }

-- one of a file, as a pass finds it
abbrev pub fault : ℕ → List ℕ → FileFault → SourceFault
fault pass file f = record { pass = pass; file = file; step = f.step; place = f.spot.place; kind = f.spot.kind }

-- one of the whole list of sources, which has no file name and stands at 0; and one of a file, in a pass of one step
abbrev pub of_list : ℕ → Kind → SourceFault
of_list pass kind = fault pass [] (at_step 0 (spot start kind))

abbrev pub of_file : ℕ → List ℕ → Place → Kind → SourceFault
of_file pass file place kind = fault pass file (at_step 0 (spot place kind))

-- ---- what breaks a rule

-- what the sources describe, each by itself, in the order of their names
pub record AreDescribed (limits : Limits) (sources : List Source) (descs : List FileDesc) : Type 0 where
  pub files : List Source
  pub by_name : AreByName sources files
  pub each : AllZip (SourceDescribes limits) files descs

-- a rule of a pass that is broken, whatever other passes find
pub data Breaks (limits : Limits) (sources : List Source) : SourceFault → Type 0 where
  many_files : limit_of limits limit.Files < length sources → Breaks limits sources (of_list 0 kind.TooManyFiles)
  repeated_file_name : (i j : ℕ) → i < j → j < length sources → name_at sources i ≡ name_at sources j
      → Breaks limits sources (of_file 0 (name_at sources i) start kind.FileNameTwice)
  file_fault : (s : Source) (f : FileFault) → Contains sources s → IsOwnFault limits (name_of s) (text_of s) f
      → Breaks limits sources (fault 1 (name_of s) f)
  bad_import : (descs : List FileDesc) (a : ℕ) (place : Place) (what : Kind) → AreDescribed limits sources descs
      → imports.IsBad descs a place what → Breaks limits sources (of_file 2 (imports.name_at descs a) place what)
  many_names : (descs : List FileDesc) → AreDescribed limits sources descs
      → limit_of limits limit.Names < length (occurrences descs) → Breaks limits sources (of_list 3 kind.TooManyNames)
  repeated_name : (descs : List FileDesc) (o : Occurrence) → AreDescribed limits sources descs
      → IsTwice (occurrences descs) o
      → Breaks limits sources (of_file 3 (imports.name_at descs o.file) o.place kind.NameTwice)
  bad_type : (descs : List FileDesc) (a : ℕ) (desc : FileDesc) (place : Place) (what : Kind)
      → AreDescribed limits sources descs → StandsAt descs a desc
      → TypesBreak (occurrences descs) (Sees descs a) desc (spot place what)
      → Breaks limits sources (of_file 4 (imports.name_at descs a) place what)
  long_descriptor : (files : List Source) (typed : List FileDesc) (links : Linked) (index : Index) (a : ℕ)
      (desc : FileDesc) → AreResolved limits sources files typed links index → StandsAt typed a desc
      → limit_of limits limit.DescriptorBytes < length (file_desc_bytes desc)
      → Breaks limits sources (of_file 5 (imports.name_at typed a) start kind.DescriptorTooLong)
  long_set : (c : Compilation) → IsWritten limits sources c
      → limit_of limits limit.SetBytes < length (set_of c.files c.links)
      → Breaks limits sources (of_list 6 kind.SetTooLong)

-- ---- what is judged, and the first

-- a later pass is judged only where no earlier one finds a broken rule
pub record IsFault (limits : Limits) (sources : List Source) (x : SourceFault) : Type 0 where
  pub breaks : Breaks limits sources x
  pub judged : (y : SourceFault) → Breaks limits sources y → y.pass < x.pass → ⊥

-- by pass, file name, step, place and the number of the kind
abbrev pub numbered : SourceFault → Found
numbered x = record { pass = x.pass; file = x.file; step = x.step; place = x.place.offset; number = number_of x.kind }

abbrev pub IsNoLater : SourceFault → SourceFault → Type 0
IsNoLater x y = found_cmp (numbered x) (numbered y) ≢ Greater

abbrev pub IsEarlier : SourceFault → SourceFault → Type 0
IsEarlier x y = found_cmp (numbered x) (numbered y) ≡ Less

-- the first of them
abbrev pub IsLeastFault : Limits → List Source → SourceFault → Type 0
IsLeastFault limits sources = IsLeastBy IsNoLater (IsFault limits sources)

-- ---- what an error tells

abbrev pub told_by : Fault → SourceFault
told_by f = fault f.pass (string_bytes f.file) (at_step f.step (spot f.place f.kind))

-- the error is for want of memory, or tells a fault that is so
abbrev pub TellsOf : (SourceFault → Type 0) → CompileError → Type 0
TellsOf P (errors.First f) = P (told_by f)
TellsOf P errors.NoMemory = Unit {0}

-- ---- where faults stand

-- a fault's file is one of the sources, unless the fault is one of the whole list; its place lies within the text of
-- its file
pub record IsPlaced (limits : Limits) (sources : List Source) (file : List ℕ) (place : Place) : Type 0 where
  pub of_source : (file ≡ []) ⊎ ((s : Source) × Contains sources s × (name_of s ≡ file))
  pub within : (s : Source) → Contains sources s → name_of s ≡ file → place.offset ≤ length (text_of s)
  pub short : place.offset ≤ limit_of limits limit.FileBytes
