-- Words for the contracts of the private functions that make the table of extensions. They are no part of the definition.
use Rattle.std.specs.Prelude.{◌≡◌, ℕ, ◌-◌, ◌≤◌, IsSomeAnd, List, length, map, Contains, slice_get}
use Rattle.std.specs.Cmp.Lexicographic.{slice_cmp}
use Rattle.std.specs.List.Sorted.{IsSorted}
use Rattle.std.specs.Ordering.{nat_cmp, ordering_then}
use Rattle.std.specs.declared.cmp.Ordering.{Ordering}
use Rattle.proto_compilation.specs.Extensions.{DeclaredExtension, ExtensionsRise}
use Rattle.proto_sets.specs.Extensions.{AreAmong, HaveOneNumber}
use Rattle.proto_sets.specs.Says.{ExtensionAt}
use Rattle.proto_sets.specs.declared.table.NamedExtension.{NamedExtension}

-- an extension of the program
abbrev pub named_by : NamedExtension → DeclaredExtension
named_by e = record { message = e.message.now; number = e.number; file = e.file }

abbrev pub names_of : List NamedExtension → List DeclaredExtension
names_of es = map named_by es

-- those of which the messages are spelled in full
pub record AreNamed (extensions : List ExtensionAt) (named : List DeclaredExtension) : Type 0 where
  pub each : (d : DeclaredExtension) → Contains named d → AreAmong extensions d
  pub all : (d : DeclaredExtension) → AreAmong extensions d → Contains named d

-- by message, number and file
abbrev pub extension_cmp : DeclaredExtension → DeclaredExtension → Ordering
extension_cmp d f = ordering_then (slice_cmp nat_cmp d.message f.message)
    (ordering_then (nat_cmp d.number f.number) (nat_cmp d.file f.file))

abbrev pub AreInOrder : List DeclaredExtension → Type 0
AreInOrder ds = IsSorted extension_cmp ds

-- the last of a table has its message and number
abbrev pub IsRepeated : List DeclaredExtension → DeclaredExtension → Type 0
IsRepeated table d = IsSomeAnd (slice_get table (length table - 1)) (λ last. HaveOneNumber last d)

-- of each message and number among some, the one of the first file
pub record IsTableOf (ds table : List DeclaredExtension) : Type 0 where
  pub rise : ExtensionsRise table
  pub each : (d : DeclaredExtension) → Contains table d → Contains ds d
  pub all : (d : DeclaredExtension) → Contains ds d
      → (f : DeclaredExtension) × Contains table f × HaveOneNumber f d × (f.file ≤ d.file)
  pub few : length table ≤ length ds
