-- Words of private contracts: graphs of files by the relations that they stand for, and the bad imports of files.
use Rattle.std.specs.Prelude.{◌≡◌, ◌↔◌, ℕ, ◌<◌, List, length, AllPairs, Bool, Contains}
use Rattle.digraph.specs.Edges.{Graph, Edge}
use Rattle.digraph.specs.Marks.{IsMarked}
use Rattle.proto_desc.specs.declared.file.FileDesc.{FileDesc}
use Rattle.proto_desc.specs.declared.file.ImportDescriptor.{ImportDescriptor}
use Rattle.proto_links.specs.Bad.{Precedes}
use Rattle.proto_links.specs.Imports.{Imports, ImportsPublicly, IsBad, IsNamed, IsWrong, Reaches, Targets}
use Rattle.proto_links.specs.declared.bad.FileSpot.{FileSpot}
use Rattle.proto_base.specs.declared.spot.Spot.{Spot}

-- an import of the list names no file
abbrev pub HasMissing : List FileDesc → List ImportDescriptor → Type 0
HasMissing files imports = (i : ImportDescriptor) × Contains imports i × ((b : ℕ) → IsNamed files i.path b → ⊥)

pub record IsGraph (files : List FileDesc) (g : Graph) : Type 0 where
  pub size : length g ≡ length files
  pub edges : (a b : ℕ) → Edge g a b ↔ Imports files a b

pub record IsPublicGraph (files : List FileDesc) (g : Graph) : Type 0 where
  pub size : length g ≡ length files
  pub edges : (a b : ℕ) → Edge g a b ↔ ImportsPublicly files a b

-- no file reaches itself by an import
abbrev pub HasNoWayBack : List FileDesc → Type 0
HasNoWayBack files = (a b : ℕ) → Imports files a b → Reaches files b a → ⊥

-- of the files that the list names, those that reach a are marked
abbrev pub AreMarkedBack : List FileDesc → ℕ → List ImportDescriptor → List Bool → Type 0
AreMarkedBack files a imports marks = (b : ℕ) → Targets files imports b → IsMarked marks b ↔ Reaches files b a

-- ---- the bad imports of one file

-- what is wrong with an import, at its place
abbrev pub IsWrongAt : List FileDesc → ℕ → ImportDescriptor → Spot → Type 0
IsWrongAt files a i x = (i.place ≡ x.place) × IsWrong files a i x.kind

-- what is wrong with an import of the list
abbrev pub IsWrongIn : List FileDesc → ℕ → List ImportDescriptor → Spot → Type 0
IsWrongIn files a imports x =
    (i : ImportDescriptor) × Contains imports i × (i.place ≡ x.place) × IsWrong files a i x.kind

-- ---- those of one file after the other

abbrev pub spot_of_file : ℕ → Spot → FileSpot
spot_of_file a x = record { file = a; spot = x }

-- those of the first n files, in their order
pub record AreBadTo (files : List FileDesc) (n : ℕ) (bad : List FileSpot) : Type 0 where
  pub all : (x : FileSpot) → Contains bad x ↔ ((x.file < n) × IsBad files x.file x.spot.place x.spot.kind)
  pub order : AllPairs Precedes bad
