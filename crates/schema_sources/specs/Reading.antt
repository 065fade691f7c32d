-- Words of private contracts: what is read under names.
use Rattle.std.specs.Prelude.{◌≡◌, ◌⊎◌, ℕ, List, ◌∷◌, ◌++◌, All, map, Result, Ok, Err, IfOk, IfSome}
use Rattle.skipped_sources.specs.Options.{taken}
use Rattle.source_folder.specs.Folder.{name_of, named_bytes}
use Rattle.source_folder.specs.Troubles.{no_memory}
use Rattle.source_folder.specs.declared.folder.NamedText.{NamedText}
use Rattle.source_folder.specs.declared.trouble.FolderTrouble.{FolderTrouble}
use Rattle.schema_sources.specs.Texts.{KnownSources, bytes_of, taken_source}

abbrev pub Outcome : Type 0
Outcome = Result NamedText FolderTrouble

-- a text that may be what is taken of the folder's source of this name: of the known one, where there is one
abbrev pub IsTakenUnder : KnownSources → (name text : List ℕ) → Type 0
IsTakenUnder known name text =
    IfSome known.texts (All (λ source. source.0 ≡ name → text ≡ taken known.custom_options source.1))

-- a source of this name, with the text that is taken of it where it is known; or a trouble
abbrev pub IsReadUnder : KnownSources → List ℕ → Outcome → Type 0
IsReadUnder known name outcome =
    IfOk outcome (λ source. (name_of source ≡ name) × IsTakenUnder known name (bytes_of source))

-- the first trouble: what comes before it are sources. Or memory was short
abbrev pub IsFirstTrouble : List Outcome → FolderTrouble → Type 0
IsFirstTrouble outcomes trouble = (trouble ≡ no_memory)
    ⊎ ((texts : List NamedText) × (rest : List Outcome) × (outcomes ≡ map Ok texts ++ Err trouble ∷ rest))

-- what is taken of the sources of a folder, where they are known
abbrev pub AreTakenOf : KnownSources → List NamedText → Type 0
AreTakenOf known texts =
    IfSome known.texts (λ sources. map named_bytes texts ≡ map (taken_source known.custom_options) sources)
