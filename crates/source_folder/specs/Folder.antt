-- The sources of a folder.
use Rattle.std.specs.Prelude.{ℕ, List, map, string_bytes}
use Rattle.source_folder.specs.declared.folder.NamedText.{NamedText}

abbrev pub name_of : NamedText → List ℕ
name_of source = string_bytes source.name

abbrev pub names_of : List NamedText → List (List ℕ)
names_of sources = map name_of sources

-- a name and the bytes of its text
abbrev pub NamedBytes : Type 0
NamedBytes = List ℕ × List ℕ

abbrev pub named_bytes : NamedText → NamedBytes
named_bytes source = (name_of source, source.text.items)
