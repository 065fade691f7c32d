-- What the bytes of a `FileDescriptorSet` say: its files, in the order of their names, and what each of them declares.
use Rattle.std.specs.Prelude.{◌≡◌, ◌≢◌, ℕ, ◌+◌, ◌≤◌, List, [], ◌∷◌, ◌++◌, length, map, All, None, IsPermutation, IsUtf8}
use Rattle.std.specs.List.{AllZip, filter_map}
use Rattle.proto_base.specs.Limits.{limit_of}
use Rattle.proto_base.specs.NameOrder.{NamesRise}
use Rattle.proto_base.specs.declared.limits.Limit.TheVariants as limit
use Rattle.proto_base.specs.declared.limits.Limits.{Limits}
use Rattle.proto_compilation.specs.Compilation.{Compilation, CompiledFile, file_bytes, file_name}
use Rattle.proto_desc.specs.DeclaredNames.{file_scope}
use Rattle.proto_desc.specs.declared.file.FileDesc.{FileDesc}
use Rattle.proto_links.specs.Linked.{AreLinked}
use Rattle.proto_names.specs.Index.{IndexesNames}
use Rattle.proto_names.specs.Occurrences.{Occurrence, package_occurrences}
use Rattle.proto_sets.specs.Elements.{text_in, text_of}
use Rattle.proto_sets.specs.Extensions.{AreTabled}
use Rattle.proto_sets.specs.Heads.{IsHead}
use Rattle.proto_sets.specs.Says.{ExtensionAt, Said, Say, said_extension, said_occurrence}
use Rattle.wire_format.specs.Reading.{Value, IsRow}

-- ---- the files of a set

-- the bytes of a set are a row of fields, and these are the bytes of its files: each `file` = 1
abbrev pub AreTexts : List ℕ → List (List ℕ) → Type 0
AreTexts set texts = (fields : List (ℕ × Value)) × IsRow set fields × (texts ≡ filter_map (text_in 1) fields)

-- the bytes of a file are a row of fields, and this is its `name` = 1
pub record HasName (text name : List ℕ) : Type 0 where
  pub fields : List (ℕ × Value)
  pub row : IsRow text fields
  pub is : name ≡ text_of 1 fields
  pub utf8 : IsUtf8 name

-- the file has its name, which is not empty
pub record IsNamedFile (file : CompiledFile) : Type 0 where
  pub has : HasName file.bytes file.name
  pub named : file.name ≢ []

-- the files as they stand in a set that keeps to the limits
pub record AreFilesIn (limits : Limits) (set : List ℕ) (files : List CompiledFile) : Type 0 where
  pub short : length set ≤ limit_of limits limit.SetBytes
  pub texts : AreTexts set (map file_bytes files)
  pub few : length files ≤ limit_of limits limit.Files
  pub each : All IsNamedFile files

-- and in the order of their names
pub record AreByName (limits : Limits) (set : List ℕ) (files : List CompiledFile) : Type 0 where
  pub placed : List CompiledFile
  pub are : AreFilesIn limits set placed
  pub all : IsPermutation placed files
  pub rises : NamesRise (map file_name files)

-- ---- what they declare

-- the head of a file, and the elements that it declares
pub record Contents : Type 0 where
  pub head : FileDesc
  pub said : List Said

abbrev pub head_of : Contents → FileDesc
head_of contents = contents.head

-- the elements around an enum's value, or around a field, of the innermost message: two more than messages
abbrev pub depth_of : Limits → ℕ
depth_of limits = limit_of limits limit.Depth + 2

-- the bytes of a file say so, where elements stand within one another at most so deep
pub record SaysFile (depth : ℕ) (text : List ℕ) (contents : Contents) : Type 0 where
  pub fields : List (ℕ × Value)
  pub row : IsRow text fields
  pub of_head : IsHead fields contents.head
  pub all : Say depth None (file_scope contents.head.«package») fields contents.said

abbrev pub FileSays : ℕ → CompiledFile → Contents → Type 0
FileSays depth file contents = SaysFile depth file.bytes contents

-- the files of a set by name, and what each of them says
pub record SetSays (limits : Limits) (set : List ℕ) (files : List CompiledFile) (contents : List Contents) : Type 0 where
  pub by_name : AreByName limits set files
  pub each : AllZip (FileSays (depth_of limits)) files contents

-- all that occurs in files of which the first has this position, and their extensions
abbrev pub names_from : ℕ → List Contents → List Occurrence
names_from first [] = []
names_from first (c ∷ cs) = package_occurrences first c.head.«package» ++ map (said_occurrence first) c.said
    ++ names_from (first + 1) cs

abbrev pub extensions_from : ℕ → List Contents → List ExtensionAt
extensions_from first [] = []
extensions_from first (c ∷ cs) = filter_map (said_extension first) c.said ++ extensions_from (first + 1) cs

abbrev pub IsShortName : Limits → Occurrence → Type 0
IsShortName limits o = length o.name ≤ limit_of limits limit.FullNameBytes

-- ---- what a set is read as

pub record IsOfSet (limits : Limits) (set : List ℕ) (c : Compilation) : Type 0 where
  pub contents : List Contents
  pub says : SetSays limits set c.files contents
  pub short_names : All (IsShortName limits) (names_from 0 contents)
  pub linked : AreLinked (map head_of contents) c.links
  pub indexed : IndexesNames (length c.files) (names_from 0 contents) limits c.index
  pub same_limits : c.limits ≡ limits
  pub extensions : AreTabled (extensions_from 0 contents) c.extensions
