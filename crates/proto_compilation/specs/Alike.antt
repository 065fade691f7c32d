-- Compilations that no question tells apart.
use Rattle.std.specs.Prelude.{◌≡◌, ◌↔◌, ℕ, ◌<◌, length, Contains}
use Rattle.proto_links.specs.Linked.{reach_of}
use Rattle.proto_names.specs.Occurrences.{Occurrence}
use Rattle.proto_compilation.specs.Compilation.{Compilation}

-- the same files in the same set order, which reach the same files, declare the same names and
-- extensions, within the same limits
pub record AreAlike (c d : Compilation) : Type 0 where
  pub files : c.files ≡ d.files
  pub set_order : c.links.set_order ≡ d.links.set_order
  pub reach : (a : ℕ) → a < length c.files → reach_of c.links a ≡ reach_of d.links a
  pub occurrences : (o : Occurrence) → Contains c.index.occurrences o ↔ Contains d.index.occurrences o
  pub services : c.index.services ≡ d.index.services
  pub extensions : c.extensions ≡ d.extensions
  pub limits : c.limits ≡ d.limits
