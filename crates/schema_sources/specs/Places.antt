-- In which folder a source lies.
use Rattle.std.specs.Prelude.{ℕ, List, Option, None, Some, bytes_eq, find}
use Rattle.schema_sources.specs.declared.places.Elsewhere.{Elsewhere}
use Rattle.schema_sources.specs.declared.places.Places.{Places}

-- what is known of a source of this name that does not lie in the root
abbrev pub entry_of : Places → List ℕ → Option Elsewhere
entry_of places name = find (λ entry. bytes_eq entry.name.now name) places.elsewhere.now

abbrev pub folder_or : List ℕ → Option Elsewhere → List ℕ
folder_or root None = root
folder_or root (Some entry) = entry.folder.now

-- the folder in which the source of a name lies
abbrev pub folder_in : Places → List ℕ → List ℕ
folder_in places name = folder_or places.root.now (entry_of places name)
