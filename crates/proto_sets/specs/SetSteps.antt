-- Words for the contracts of the private functions. They are no part of the definition.
use Rattle.std.specs.Prelude.{◌≡◌, ◌≢◌, ℕ, ◌+◌, ◌<◌, List, [], length, map, All, IsPermutation, Some, slice_get}
use Rattle.std.specs.List.{AllZip}
use Rattle.std.specs.Cmp.Lexicographic.{slice_cmp}
use Rattle.std.specs.Ordering.{nat_cmp}
use Rattle.std.specs.declared.cmp.Ordering.TheVariants.{Greater}
use Rattle.proto_base.specs.Limits.{limit_of}
use Rattle.proto_base.specs.declared.kind.Kind.{Kind}
use Rattle.proto_base.specs.declared.kind.Kind.TheVariants as rule
use Rattle.proto_base.specs.declared.limits.Limit.TheVariants as limit
use Rattle.proto_base.specs.declared.limits.Limits.{Limits}
use Rattle.proto_compilation.specs.Compilation.{CompiledFile}
use Rattle.proto_desc.specs.declared.file.FileDesc.{FileDesc}
use Rattle.proto_names.specs.Occurrences.{Occurrence}
use Rattle.proto_sets.specs.Says.{ExtensionAt}
use Rattle.proto_sets.specs.SetFaults.{Fault, TellsOf, at_position, name_at, of_file}
use Rattle.proto_sets.specs.Sets.{Contents, FileSays, HasName, IsShortName, SaysFile, SetSays, extensions_from, head_of, names_from}
use Rattle.proto_sets.specs.declared.fault.SetError.{SetError}
use Rattle.proto_sets.specs.declared.fault.SetKind.{SetKind}
use Rattle.proto_sets.specs.declared.fault.SetKind.TheVariants as kind
use Rattle.proto_sets.specs.declared.files.NamedBytes.{NamedBytes}

-- the error is for want of memory, or tells this fault
abbrev pub Tells : Fault → SetError → Type 0
Tells x = TellsOf (λ y. y ≡ x)

-- a file of the program
abbrev pub file_of : NamedBytes → CompiledFile
file_of file = record { name = file.name.now; bytes = file.bytes.now }

abbrev pub files_of : List NamedBytes → List CompiledFile
files_of files = map file_of files

-- ---- the first file without a name

-- the file at a position has no name: its bytes are no row of fields, or its name is no text; or it is empty
pub data IsNameless (at : ℕ) (text : List ℕ) : Fault → Type 0 where
  malformed : ((name : List ℕ) → HasName text name → ⊥) → IsNameless at text (at_position kind.MalformedFile at)
  empty : HasName text [] → IsNameless at text (at_position kind.FileWithoutName at)

pub record IsFirstNameless (texts : List (List ℕ)) (x : Fault) : Type 0 where
  pub at : ℕ
  pub text : List ℕ
  pub stands : slice_get texts at ≡ Some text
  pub wrong : IsNameless at text x
  pub before : (j : ℕ) (other : List ℕ) → j < at → slice_get texts j ≡ Some other
      → (name : List ℕ) × HasName other name × (name ≢ [])

-- ---- files by name

-- the same files, none behind one of a greater name
pub record AreSorted (placed files : List CompiledFile) : Type 0 where
  pub all : IsPermutation placed files
  pub rises : (k : ℕ) → k + 1 < length files → slice_cmp nat_cmp (name_at files k) (name_at files (k + 1)) ≢ Greater

-- of sorted files, the first of which the next one has the name
pub record IsFirstRepeated (files : List CompiledFile) (k : ℕ) : Type 0 where
  pub below : k + 1 < length files
  pub same : name_at files k ≡ name_at files (k + 1)
  pub first : (j : ℕ) → j < k → name_at files j ≢ name_at files (j + 1)

-- ---- the first file that says nothing

pub record IsFirstSilent (depth : ℕ) (files : List CompiledFile) (x : Fault) : Type 0 where
  pub at : ℕ
  pub file : CompiledFile
  pub stands : slice_get files at ≡ Some file
  pub wrong : (contents : Contents) → SaysFile depth file.bytes contents → ⊥
  pub before : (j : ℕ) (other : CompiledFile) → j < at → slice_get files j ≡ Some other
      → (contents : Contents) × SaysFile depth other.bytes contents
  pub is : x ≡ of_file kind.MalformedContents file.name

-- ---- the first name that is too long

pub record IsFirstLong (limits : Limits) (names : List Occurrence) (files : List CompiledFile) (x : Fault) : Type 0 where
  pub at : ℕ
  pub o : Occurrence
  pub stands : slice_get names at ≡ Some o
  pub long : limit_of limits limit.FullNameBytes < length o.name
  pub before : (j : ℕ) (p : Occurrence) → j < at → slice_get names j ≡ Some p → IsShortName limits p
  pub is : x ≡ of_file kind.NameTooLong (name_at files o.file)

-- ---- what is wrong with an import: it names no file, or leads in a circle

abbrev pub import_kind : Kind → SetKind
import_kind rule.ImportMissing = kind.ImportMissing
import_kind other = kind.ImportCycle

-- ---- what files declare

pub record AreWalked (depth : ℕ) (files : List CompiledFile) (names : List Occurrence) (extensions : List ExtensionAt)
    (heads : List FileDesc) : Type 0 where
  pub contents : List Contents
  pub each : AllZip (FileSays depth) files contents
  pub names_are : names ≡ names_from 0 contents
  pub extensions_are : extensions ≡ extensions_from 0 contents
  pub heads_are : heads ≡ map head_of contents

-- files whose contents and names pass
pub record AreNamed (limits : Limits) (set : List ℕ) (files : List CompiledFile) (contents : List Contents) : Type 0 where
  pub says : SetSays limits set files contents
  pub short_names : All (IsShortName limits) (names_from 0 contents)
