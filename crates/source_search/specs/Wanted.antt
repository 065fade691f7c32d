-- The sources of a run, each a name and a text.
use Rattle.std.specs.Prelude.{◌≡◌, ◌↔◌, ℕ, List, map, Some, Contains}
use Rattle.proto_base.specs.declared.limits.Limits.{Limits}
use Rattle.source_folder.specs.Folder.{NamedBytes}
use Rattle.source_search.specs.Imports.{Imports, IsBelow}
use Rattle.source_search.specs.Shelves.{Lookup}

abbrev pub name_in : NamedBytes → List ℕ
name_in source = source.0

-- a given source, or one that a wanted one imports: it stands on the shelf under a name that no given one has
pub data IsWanted (limits : Limits) (lookup : Lookup) (given : List NamedBytes) : List ℕ → List ℕ → Type 0 where
  is_given : (name text : List ℕ) → Contains given (name, text) → IsWanted limits lookup given name text
  is_imported : (importer its_text name text : List ℕ) → IsWanted limits lookup given importer its_text
      → Imports limits its_text name → IsBelow name → (Contains (map name_in given) name → ⊥)
      → lookup name ≡ Some text → IsWanted limits lookup given name text

-- the wanted sources, and no others
abbrev pub AreWanted : Limits → Lookup → (given sources : List NamedBytes) → Type 0
AreWanted limits lookup given sources =
    (name text : List ℕ) → Contains sources (name, text) ↔ IsWanted limits lookup given name text
