-- Sources as names and bytes.
use Rattle.proto_compile.specs.Sources.{name_of, text_of}
use Rattle.proto_compile.specs.declared.source.Source.{Source}
use Rattle.source_folder.specs.Folder.{NamedBytes}

-- the name and the bytes of a source
abbrev pub source_bytes : Source → NamedBytes
source_bytes s = (name_of s, text_of s)
