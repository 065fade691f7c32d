-- Sources in the order of their names.
use Rattle.std.specs.Prelude.{ℕ, List, [], map, slice_index_or, IsPermutation}
use Rattle.proto_base.specs.NameOrder.{NamesRise}
use Rattle.proto_compile.specs.declared.source.Source.{Source}

abbrev pub name_of : Source → List ℕ
name_of s = s.name.now

abbrev pub text_of : Source → List ℕ
text_of s = s.text.now

abbrev pub name_at : List Source → ℕ → List ℕ
name_at files k = slice_index_or (map name_of files) k []

-- the same sources, each before those of greater names
pub record AreByName (sources files : List Source) : Type 0 where
  pub all : IsPermutation sources files
  pub rises : NamesRise (map name_of files)
