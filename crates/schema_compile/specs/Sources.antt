-- Texts that were read, as the compiler takes them.
use Rattle.std.specs.Prelude.{◌≡◌, List, map}
use Rattle.proto_compile.specs.Sources.{name_of, text_of}
use Rattle.proto_compile.specs.declared.source.Source.{Source}
use Rattle.schema_sources.specs.Texts.{bytes_of}
use Rattle.source_folder.specs.Folder.{names_of}
use Rattle.source_folder.specs.declared.folder.NamedText.{NamedText}

-- sources with the names and the bytes of these texts, in their order
pub record AreSourcesOf (texts : List NamedText) (sources : List Source) : Type 0 where
  pub named : map name_of sources ≡ names_of texts
  pub bytes : map text_of sources ≡ map bytes_of texts
