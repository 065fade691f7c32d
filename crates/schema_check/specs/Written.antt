-- The sources of a run as they are shown: as they were taken or, where custom options are skipped, as they are written.
use Rattle.std.specs.Prelude.{◌≡◌, ℕ, Bool, List, map}
use Rattle.proto_compile.specs.Sources.{name_of, text_of}
use Rattle.proto_compile.specs.declared.source.Source.{Source}
use Rattle.skipped_sources.specs.declared.options.CustomOptions.{CustomOptions}
use Rattle.skipped_sources.specs.declared.options.CustomOptions.TheVariants.{Refuse, Skip}
use Rattle.source_skip.specs.Laws.{is_line_end}

-- of each byte of a text, whether it is a line's end; texts that agree in this have the same lines and columns
abbrev pub line_ends : List ℕ → List Bool
line_ends text = map is_line_end text

abbrev pub line_ends_of : Source → List Bool
line_ends_of s = line_ends (text_of s)

abbrev pub AreShownAs : CustomOptions → List Source → List Source → Type 0
AreShownAs Refuse sources shown = shown ≡ sources
AreShownAs Skip sources shown =
    (map name_of shown ≡ map name_of sources) × (map line_ends_of shown ≡ map line_ends_of sources)
