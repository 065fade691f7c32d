-- Which files a file sees.
use Rattle.std.specs.Prelude.{◌≡◌, ℕ, List}
use Rattle.proto_desc.specs.declared.file.FileDesc.{FileDesc}
use Rattle.proto_links.specs.Imports.{Imports, ImportsPublicly}

-- itself, what it imports, and what every file that it sees, other than itself, imports publicly
pub data Sees (files : List FileDesc) (a : ℕ) : ℕ → Type 0 where
  itself : Sees files a a
  imported : (b : ℕ) → Imports files a b → Sees files a b
  re_exported : (b c : ℕ) → Sees files a b → (b ≡ a → ⊥) → ImportsPublicly files b c → Sees files a c
