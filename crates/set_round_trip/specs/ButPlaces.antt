-- Compilations that no question tells apart that does not ask for places.
use Rattle.std.specs.Prelude.{map}
use Rattle.proto_compilation.specs.Alike.{AreAlike}
use Rattle.proto_compilation.specs.Compilation.{Compilation}
use Rattle.proto_names.specs.Index.{Index}
use Rattle.proto_names.specs.Occurrences.{Occurrence}
use Rattle.proto_sets.specs.Says.{start}

-- the same name in the same file, at the file's first byte
abbrev pub at_start : Occurrence → Occurrence
at_start o = record { name = o.name; file = o.file; place = start; kind = o.kind }

abbrev pub index_at_start : Index → Index
index_at_start index = record {
  files = index.files;
  occurrences = map at_start index.occurrences;
  services = index.services;
}

-- the same compilation, with each name at the first byte of its file
abbrev pub without_places : Compilation → Compilation
without_places c = record {
  files = c.files;
  links = c.links;
  index = index_at_start c.index;
  extensions = c.extensions;
  limits = c.limits;
}

-- the same files in the same set order, which reach the same files and declare the same names, wherever these stand
abbrev pub AreAlikeButPlaces : Compilation → Compilation → Type 0
AreAlikeButPlaces c d = AreAlike (without_places c) (without_places d)
