-- Which file imports which, and what is wrong with an import. A file is named by its position in the list of files.
use Rattle.std.specs.Prelude.{◌≡◌, ℕ, ◌<◌, List, [], length, map, slice_index_or, Contains, IsTrue}
use Rattle.digraph.specs.Leads.{Leads}
use Rattle.proto_desc.specs.declared.file.FileDesc.{FileDesc}
use Rattle.proto_desc.specs.declared.file.ImportDescriptor.{ImportDescriptor}
use Rattle.proto_base.specs.declared.kind.Kind.{Kind}
use Rattle.proto_base.specs.declared.kind.Kind.TheVariants as kind
use Rattle.proto_base.specs.declared.place.Place.{Place}

abbrev pub name_of : FileDesc → List ℕ
name_of file = file.name

abbrev pub imports_of : FileDesc → List ImportDescriptor
imports_of file = file.imports

abbrev pub name_at : List FileDesc → ℕ → List ℕ
name_at files a = slice_index_or (map name_of files) a []

abbrev pub imports_at : List FileDesc → ℕ → List ImportDescriptor
imports_at files a = slice_index_or (map imports_of files) a []

-- b is the file of this name
abbrev pub IsNamed : List FileDesc → List ℕ → ℕ → Type 0
IsNamed files name b = (b < length files) × (name_at files b ≡ name)

-- an import of the list names b
abbrev pub Targets : List FileDesc → List ImportDescriptor → ℕ → Type 0
Targets files imports b = (i : ImportDescriptor) × Contains imports i × IsNamed files i.path b

abbrev pub PublicTargets : List FileDesc → List ImportDescriptor → ℕ → Type 0
PublicTargets files imports b =
    (i : ImportDescriptor) × Contains imports i × IsTrue i.is_public × IsNamed files i.path b

abbrev pub Imports : List FileDesc → ℕ → ℕ → Type 0
Imports files a b = Targets files (imports_at files a) b

abbrev pub ImportsPublicly : List FileDesc → ℕ → ℕ → Type 0
ImportsPublicly files a b = PublicTargets files (imports_at files a) b

-- the reflexive, transitive closure of imports: a reaches c
abbrev pub Reaches : List FileDesc → ℕ → ℕ → Type 0
Reaches files a c = Leads (Imports files) c a

-- ---- what is wrong

-- what is wrong with an import of a: no file has the name, or the file that has it reaches a
pub data IsWrong (files : List FileDesc) (a : ℕ) (i : ImportDescriptor) : Kind → Type 0 where
  missing : ((b : ℕ) → IsNamed files i.path b → ⊥) → IsWrong files a i kind.ImportMissing
  cyclic : (b : ℕ) → IsNamed files i.path b → Reaches files b a → IsWrong files a i kind.ImportCycle

-- an import of the file a, at this place, with this fault
abbrev pub IsBad : List FileDesc → ℕ → Place → Kind → Type 0
IsBad files a place kind =
    (i : ImportDescriptor) × Contains (imports_at files a) i × (i.place ≡ place) × IsWrong files a i kind

abbrev pub NoneBad : List FileDesc → Type 0
NoneBad files = (a : ℕ) (place : Place) (kind : Kind) → IsBad files a place kind → ⊥
