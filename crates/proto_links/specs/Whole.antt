-- What is so of the links of any files.
use Rattle.std.specs.Prelude.{◌≡◌, ◌↔◌, ℕ, ◌<◌, List, length, filter, IsTrue, Contains, ◌==◌}
use Rattle.std.specs.List.{IsDistinct}
use Rattle.std.specs.Set.{is_member}
use Rattle.bit_matrix.specs.Bits.{Bits}
use Rattle.bit_matrix.specs.Changes.{Has, columns_of}
use Rattle.proto_desc.specs.declared.file.FileDesc.{FileDesc}
use Rattle.proto_links.specs.Linked.{Linked, count_of, reach_of, sees, AreLinked}

-- one of the files that are set in a row is seen
abbrev pub SeesOneOf : Linked → ℕ → Bits → ℕ → Type 0
SeesOneOf links a files row = (b : ℕ) × (b < columns_of files) × IsTrue (sees links a b) × Has files row b

-- the links of some files
abbrev pub AreOfFiles : Linked → Type 0
AreOfFiles links = (files : List FileDesc) × AreLinked files links

-- a file reaches files alone, itself among them, and what those reach that it reaches; no file stands twice in a list;
-- what a file reaches is a part of the set order, which has every file
pub record AreReachesWhole (links : Linked) : Type 0 where
  pub within : (a b : ℕ) → a < count_of links → Contains (reach_of links a) b → b < count_of links
  pub itself : (a : ℕ) → a < count_of links → Contains (reach_of links a) a
  pub closed : (a b c : ℕ) → a < count_of links → Contains (reach_of links a) b → Contains (reach_of links b) c
      → Contains (reach_of links a) c
  pub once : (a : ℕ) → a < count_of links → IsDistinct ◌==◌ (reach_of links a)
  pub part : (a : ℕ) → a < count_of links
      → reach_of links a ≡ filter (is_member ◌==◌ (reach_of links a)) links.set_order
  pub every : (a : ℕ) → Contains links.set_order a ↔ (a < count_of links)
  pub each_once : IsDistinct ◌==◌ links.set_order
  pub size : length links.set_order ≡ count_of links
