-- Words of private contracts: what a search knows.
use Rattle.std.specs.Prelude.{◌≡◌, ℕ, Bool, true, List, [], ◌∷◌, ◌++◌, map, if◌then◌else◌, Option, Some, None, All, Contains, Vec, String, string_bytes}
use Rattle.std.specs.BTreeSet.{contains_text}
use Rattle.std.specs.List.{IsDistinct}
use Rattle.std.specs.Str.{bytes_eq}
use Rattle.std.specs.declared.alloc.Global.{Global}
use Rattle.proto_base.specs.declared.limits.Limits.{Limits}
use Rattle.source_folder.specs.Folder.{NamedBytes, named_bytes}
use Rattle.source_folder.specs.declared.folder.NamedText.{NamedText}
use Rattle.source_search.specs.Imports.{AreImportsOf, Imports, IsBelow}
use Rattle.source_search.specs.Shelves.{Known, Lookup}
use Rattle.source_search.specs.Wanted.{IsWanted, name_in}
use Rattle.source_search.specs.declared.search.Search.{Search}

abbrev pub texts_in : Vec (String Global) Global → List (List ℕ)
texts_in names = map string_bytes names.items

-- the names that a source imports, as far as they can be paths below a folder
abbrev pub SourceImports : Limits → NamedText → Vec (String Global) Global → Type 0
SourceImports limits source names = AreImportsOf limits source.text.items (texts_in names)

abbrev pub sources_of : Search → List NamedBytes
sources_of search = map named_bytes search.sources.items

-- whether a name was looked up, or is that of a given source
abbrev pub is_asked : Search → List ℕ → Bool
is_asked search name = contains_text search.asked name

-- a wanted source imports the name, where the shelf is known
abbrev pub IsWorth : Limits → Known → List NamedBytes → List ℕ → Type 0
IsWorth limits known given name = (lookup : Lookup) → known ≡ Some lookup → (importer : List ℕ) × (text : List ℕ)
    × IsWanted limits lookup given importer text × Imports limits text name × IsBelow name

-- these sources hold the given ones, each has a name of its own, and they are what was found under the names asked
-- for, all of it wanted
pub record IsSearched (limits : Limits) (known : Known) (given sources : List NamedBytes)
    (asked : List ℕ → Bool) : Type 0 where
  pub given_in : All (Contains sources) given
  pub asked_for : All (λ source. asked source.0 ≡ true) sources
  pub once : IsDistinct bytes_eq (map name_in sources)
  pub wanted : (lookup : Lookup) → known ≡ Some lookup
      → All (λ source. IsWanted limits lookup given source.0 source.1) sources
  pub found : (lookup : Lookup) → known ≡ Some lookup → (name text : List ℕ) → asked name ≡ true
      → (Contains (map name_in given) name → ⊥) → lookup name ≡ Some text → Contains sources (name, text)

abbrev pub IsSearch : Limits → Known → List NamedBytes → Search → Type 0
IsSearch limits known given search = IsSearched limits known given (sources_of search) (is_asked search)

-- what a source imports was asked for
abbrev pub IsClosed : Limits → (List ℕ → Bool) → NamedBytes → Type 0
IsClosed limits asked source = (name : List ℕ) → Imports limits source.1 name → IsBelow name → asked name ≡ true

-- the source that is found under a name
abbrev pub found_under : List ℕ → Option (Vec ℕ Global) → List NamedBytes
found_under name None = []
found_under name (Some text) = (name, text.items) ∷ []

-- a name was asked for, and this was found under it
pub record Keeps (name : List ℕ) (found : Option (Vec ℕ Global)) (old new : Search) : Type 0 where
  pub asked : (other : List ℕ) → is_asked new other ≡ (if bytes_eq name other then true else is_asked old other)
  pub sources : sources_of new ≡ sources_of old ++ found_under name found

-- nothing is lost, these names were asked for, and where wanted sources import them, all that was found is wanted
pub record AsksFor (limits : Limits) (known : Known) (names : List (List ℕ)) (old new : Search) : Type 0 where
  pub more : List NamedBytes
  pub grown : sources_of new ≡ sources_of old ++ more
  pub still : (name : List ℕ) → is_asked old name ≡ true → is_asked new name ≡ true
  pub asked : All (λ name. is_asked new name ≡ true) names
  pub searched : (given : List NamedBytes) → All (IsWorth limits known given) names → IsSearch limits known given old
      → IsSearch limits known given new
