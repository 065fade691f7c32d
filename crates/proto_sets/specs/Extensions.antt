-- The extensions of a set as a compilation has them: by message and number, with the first file that declares each.
use Rattle.std.specs.Prelude.{◌≡◌, ℕ, ◌<◌, ◌≤◌, ◌^◌, List, ◌++◌, codes, length, Contains, IsUtf8}
use Rattle.proto_compilation.specs.Extensions.{DeclaredExtension, ExtensionsRise}
use Rattle.proto_sets.specs.Says.{ExtensionAt}

-- the same extension: the set spells its message's name in full, with a dot in front; numbers have 32 bits
pub record IsDeclared (e : ExtensionAt) (d : DeclaredExtension) : Type 0 where
  pub spelled : e.extendee ≡ codes "." ++ d.message
  pub utf8 : IsUtf8 d.message
  pub number : e.number ≡ d.number
  pub file : e.file ≡ d.file
  pub small : d.number < 2 ^ 32

abbrev pub AreAmong : List ExtensionAt → DeclaredExtension → Type 0
AreAmong extensions d = (e : ExtensionAt) × Contains extensions e × IsDeclared e d

-- of one message, with one number
abbrev pub HaveOneNumber : DeclaredExtension → DeclaredExtension → Type 0
HaveOneNumber d f = (d.message ≡ f.message) × (d.number ≡ f.number)

-- each is one of the set's, and of each of the set's there is one of its message and number, in no later file
pub record AreTabled (extensions : List ExtensionAt) (table : List DeclaredExtension) : Type 0 where
  pub rise : ExtensionsRise table
  pub each : (d : DeclaredExtension) → Contains table d → AreAmong extensions d
  pub all : (d : DeclaredExtension) → AreAmong extensions d
      → (f : DeclaredExtension) × Contains table f × HaveOneNumber f d × (f.file ≤ d.file)
  pub few : length table ≤ length extensions
