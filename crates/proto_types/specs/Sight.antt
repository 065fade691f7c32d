-- Where the names of types of one file are looked up.
use Rattle.std.specs.Prelude.{ℕ, List}
use Rattle.proto_links.specs.Linked.{Linked}
use Rattle.proto_names.specs.Index.{Index}

-- the names of all files, which of these each file sees, and of the file that spells names its position and its package
pub record Sight : Type 0 where
  pub index : Index
  pub links : Linked
  pub file : ℕ
  pub «package» : List ℕ

abbrev pub sight : Index → Linked → ℕ → List ℕ → Sight
sight index links file scope = record { index = index; links = links; file = file; «package» = scope }
