-- Words of private contracts: texts that are shown.
use Rattle.std.specs.Prelude.{◌≡◌, Bool, List, map}
use Rattle.proto_compile.specs.Sources.{name_of}
use Rattle.proto_compile.specs.declared.source.Source.{Source}
use Rattle.schema_check.specs.Written.{line_ends, line_ends_of}
use Rattle.schema_sources.specs.Texts.{bytes_of}
use Rattle.source_folder.specs.Folder.{names_of}
use Rattle.source_folder.specs.declared.folder.NamedText.{NamedText}

abbrev pub text_line_ends : NamedText → List Bool
text_line_ends text = line_ends (bytes_of text)

-- texts under the names of these sources, with their line ends
abbrev pub AreTextsFor : List Source → List NamedText → Type 0
AreTextsFor sources texts =
    (names_of texts ≡ map name_of sources) × (map text_line_ends texts ≡ map line_ends_of sources)
