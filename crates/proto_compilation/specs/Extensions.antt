-- Extensions of messages (`descriptor.proto`, `FieldDescriptorProto.extendee`), and the files that declare them.
use Rattle.std.specs.Prelude.{◌≡◌, ◌⊎◌, ℕ, ◌<◌, List, AllPairs, map, filter, bytes_eq}
use Rattle.std.specs.Cmp.Lexicographic.{slice_cmp}
use Rattle.std.specs.Ordering.{nat_cmp}
use Rattle.std.specs.declared.cmp.Ordering.TheVariants.{Less}

-- the full name of the message that is extended, the number of the extension there, and the file that declares it, by
-- its position
pub record DeclaredExtension : Type 0 where
  pub message : List ℕ
  pub number : ℕ
  pub file : ℕ

-- by message, and then by number
abbrev pub Precedes : DeclaredExtension → DeclaredExtension → Type 0
Precedes e f =
    (slice_cmp nat_cmp e.message f.message ≡ Less) ⊎ ((e.message ≡ f.message) × (e.number < f.number))

abbrev pub ExtensionsRise : List DeclaredExtension → Type 0
ExtensionsRise extensions = AllPairs Precedes extensions

-- the numbers of a message's extensions
abbrev pub numbers_of : List DeclaredExtension → List ℕ → List ℕ
numbers_of extensions message = map (λ e. e.number) (filter (λ e. bytes_eq e.message message) extensions)
