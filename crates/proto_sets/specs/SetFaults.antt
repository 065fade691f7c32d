-- The faults of a set: what breaks a rule of a pass, what of it is judged, and the first.
use Rattle.std.specs.Prelude.{◌≡◌, ◌≢◌, ℕ, ◌<◌, List, [], length, map, Contains, Some, slice_get, slice_index_or, string_bytes}
use Rattle.std.specs.declared.cmp.Ordering.TheVariants.{Greater}
use Rattle.proto_base.specs.Fault.{Found, found_cmp}
use Rattle.proto_base.specs.Least.{IsLeastBy}
use Rattle.proto_base.specs.Limits.{limit_of}
use Rattle.proto_base.specs.declared.kind.Kind.TheVariants as rule
use Rattle.proto_base.specs.declared.limits.Limit.TheVariants as limit
use Rattle.proto_base.specs.declared.limits.Limits.{Limits}
use Rattle.proto_base.specs.declared.place.Place.{Place}
use Rattle.proto_compilation.specs.Compilation.{CompiledFile, file_name}
use Rattle.proto_links.specs.Imports.{IsBad}
use Rattle.proto_names.specs.Occurrences.{IsTwice, Occurrence}
use Rattle.proto_sets.specs.Sets.{AreByName, AreFilesIn, AreTexts, Contents, HasName, SaysFile, SetSays, depth_of, head_of, names_from}
use Rattle.proto_sets.specs.declared.fault.FaultyFile.{FaultyFile}
use Rattle.proto_sets.specs.declared.fault.FaultyFile.TheVariants.{WholeSet, At, Named}
use Rattle.proto_sets.specs.declared.fault.SetError.{SetError}
use Rattle.proto_sets.specs.declared.fault.SetError.TheVariants as errors
use Rattle.proto_sets.specs.declared.fault.SetFault.{SetFault}
use Rattle.proto_sets.specs.declared.fault.SetKind.{SetKind}
use Rattle.proto_sets.specs.declared.fault.SetKind.TheVariants as kind

-- a fault: what it is, and its file, by its name; by its position in the set where it has none that can be read
pub record Fault : Type 0 where
  pub kind : SetKind
  pub name : List ℕ
  pub position : ℕ

abbrev pub of_set : SetKind → Fault
of_set what = record { kind = what; name = []; position = 0 }

abbrev pub at_position : SetKind → ℕ → Fault
at_position what k = record { kind = what; name = []; position = k }

abbrev pub of_file : SetKind → List ℕ → Fault
of_file what name = record { kind = what; name = name; position = 0 }

-- ---- the passes, and what each looks for

abbrev pub pass_of : SetKind → ℕ
pass_of kind.SetTooLong = 0
pass_of kind.MalformedSet = 1
pass_of kind.TooManyFiles = 2
pass_of kind.MalformedFile = 3
pass_of kind.FileWithoutName = 3
pass_of kind.FileNameTwice = 4
pass_of kind.MalformedContents = 5
pass_of kind.NameTooLong = 6
pass_of kind.ImportMissing = 7
pass_of kind.ImportCycle = 7
pass_of kind.TooManyNames = 8
pass_of kind.NameTwice = 9

abbrev pub name_at : List CompiledFile → ℕ → List ℕ
name_at files k = slice_index_or (map file_name files) k []

-- a rule of a pass that is broken
pub data Breaks (limits : Limits) (set : List ℕ) : Fault → Type 0 where
  long_set : limit_of limits limit.SetBytes < length set → Breaks limits set (of_set kind.SetTooLong)
  no_row : ((texts : List (List ℕ)) → AreTexts set texts → ⊥) → Breaks limits set (of_set kind.MalformedSet)
  many_files : (texts : List (List ℕ)) → AreTexts set texts → limit_of limits limit.Files < length texts
      → Breaks limits set (of_set kind.TooManyFiles)
  malformed_file : (texts : List (List ℕ)) (at : ℕ) (text : List ℕ) → AreTexts set texts
      → slice_get texts at ≡ Some text → ((name : List ℕ) → HasName text name → ⊥)
      → Breaks limits set (at_position kind.MalformedFile at)
  nameless_file : (texts : List (List ℕ)) (at : ℕ) (text : List ℕ) → AreTexts set texts
      → slice_get texts at ≡ Some text → HasName text [] → Breaks limits set (at_position kind.FileWithoutName at)
  repeated_file : (files : List CompiledFile) (i j : ℕ) → AreFilesIn limits set files → i < j → j < length files
      → name_at files i ≡ name_at files j → Breaks limits set (of_file kind.FileNameTwice (name_at files i))
  no_contents : (files : List CompiledFile) (file : CompiledFile) → AreByName limits set files → Contains files file
      → ((contents : Contents) → SaysFile (depth_of limits) file.bytes contents → ⊥)
      → Breaks limits set (of_file kind.MalformedContents file.name)
  long_name : (files : List CompiledFile) (contents : List Contents) (o : Occurrence)
      → SetSays limits set files contents → Contains (names_from 0 contents) o
      → limit_of limits limit.FullNameBytes < length o.name
      → Breaks limits set (of_file kind.NameTooLong (name_at files o.file))
  missing_import : (files : List CompiledFile) (contents : List Contents) (a : ℕ) (place : Place)
      → SetSays limits set files contents → IsBad (map head_of contents) a place rule.ImportMissing
      → Breaks limits set (of_file kind.ImportMissing (name_at files a))
  circular_import : (files : List CompiledFile) (contents : List Contents) (a : ℕ) (place : Place)
      → SetSays limits set files contents → IsBad (map head_of contents) a place rule.ImportCycle
      → Breaks limits set (of_file kind.ImportCycle (name_at files a))
  many_names : (files : List CompiledFile) (contents : List Contents) → SetSays limits set files contents
      → limit_of limits limit.Names < length (names_from 0 contents) → Breaks limits set (of_set kind.TooManyNames)
  repeated_name : (files : List CompiledFile) (contents : List Contents) (o : Occurrence)
      → SetSays limits set files contents → IsTwice (names_from 0 contents) o
      → Breaks limits set (of_file kind.NameTwice (name_at files o.file))

-- ---- what is judged, and the first

-- a later pass is judged only where no earlier one finds a broken rule
pub record IsFault (limits : Limits) (set : List ℕ) (x : Fault) : Type 0 where
  pub breaks : Breaks limits set x
  pub judged : (y : Fault) → Breaks limits set y → pass_of y.kind < pass_of x.kind → ⊥

-- of the two that a pass may look for, the first
abbrev pub number_of : SetKind → ℕ
number_of kind.MalformedFile = 0
number_of kind.ImportMissing = 0
number_of other = 1

-- by pass, name and position of the file, and kind
abbrev pub numbered : Fault → Found
numbered x = record { pass = pass_of x.kind; file = x.name; step = 0; place = x.position; number = number_of x.kind }

abbrev pub IsNoLater : Fault → Fault → Type 0
IsNoLater x y = found_cmp (numbered x) (numbered y) ≢ Greater

-- the first of them
abbrev pub IsLeastFault : Limits → List ℕ → Fault → Type 0
IsLeastFault limits set = IsLeastBy IsNoLater (IsFault limits set)

-- ---- what an error tells

abbrev pub told_of : SetKind → FaultyFile → Fault
told_of what WholeSet = of_set what
told_of what (At k) = at_position what k
told_of what (Named name) = of_file what (string_bytes name)

abbrev pub told_by : SetFault → Fault
told_by f = told_of f.kind f.file

-- the error is for want of memory, or tells a fault that is so
abbrev pub TellsOf : (Fault → Type 0) → SetError → Type 0
TellsOf P (errors.First f) = P (told_by f)
TellsOf P errors.NoMemory = Unit {0}
