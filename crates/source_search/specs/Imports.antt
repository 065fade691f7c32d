-- What the text of a source imports.
use Rattle.std.specs.Prelude.{◌↔◌, ℕ, List, map, flat_map, Contains, IsTrue}
use Rattle.proto_base.specs.declared.limits.Limits.{Limits}
use Rattle.proto_desc.specs.declared.file.ImportDescriptor.{ImportDescriptor}
use Rattle.proto_file.specs.Local.{IsFile}
use Rattle.proto_lower.specs.Files.{import_of}
use Rattle.proto_tree.specs.declared.file.FileTree.{FileTree}
use Rattle.source_folder.specs.Paths.{is_below}

abbrev pub path_of : ImportDescriptor → List ℕ
path_of i = i.path

-- the paths that the import statements of a file name, in their order
abbrev pub imported : FileTree → List (List ℕ)
imported file = map path_of (flat_map import_of file.statements)

-- the text is a file within the limits that imports this name
abbrev pub Imports : Limits → (text name : List ℕ) → Type 0
Imports limits text name = (file : FileTree) × IsFile limits text file × Contains (imported file) name

-- the name can be a path below a folder
abbrev pub IsBelow : List ℕ → Type 0
IsBelow name = IsTrue (is_below name)

-- the names that a text imports, as far as they can be paths below a folder
abbrev pub AreImportsOf : Limits → List ℕ → List (List ℕ) → Type 0
AreImportsOf limits text names = (name : List ℕ) → Contains names name ↔ (Imports limits text name × IsBelow name)
