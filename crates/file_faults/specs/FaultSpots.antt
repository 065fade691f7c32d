-- Words of private contracts: where what sources describe breaks the rules of a pass.
use Rattle.std.specs.Prelude.{◌≡◌, ◌⊎◌, ◌↔◌, ℕ, ◌+◌, ◌<◌, ◌≤◌, List, [], ◌∷◌, ◌++◌, All, AllPairs, Contains, Vec, length, map}
use Rattle.std.specs.declared.alloc.Global.{Global}
use Rattle.proto_base.specs.Least.{Precedes as SpotPrecedes}
use Rattle.proto_base.specs.Limits.{limit_of}
use Rattle.proto_base.specs.Sets.{StandsAt}
use Rattle.proto_base.specs.declared.limits.Limit.TheVariants as limit
use Rattle.proto_base.specs.declared.limits.Limits.{Limits}
use Rattle.proto_base.specs.declared.spot.Spot.{Spot}
use Rattle.proto_compile.specs.FaultSet.{SourceFault, of_file}
use Rattle.proto_desc.specs.declared.file.FileDesc.{FileDesc}
use Rattle.proto_links.specs.Bad.{AreAllBad, Precedes}
use Rattle.proto_links.specs.Imports.{NoneBad, name_at}
use Rattle.proto_links.specs.Linked.{Linked}
use Rattle.proto_links.specs.Visible.{Sees}
use Rattle.proto_links.specs.declared.bad.FileSpot.{FileSpot}
use Rattle.proto_names.specs.Index.{Index}
use Rattle.proto_names.specs.Occurrences.{NoneTwice, occurrences}
use Rattle.proto_names.specs.Repeated.{AreAllTwice}
use Rattle.proto_compile.specs.Analysed.{TypesBreakAt}
use Rattle.proto_types.specs.References.{TypesBreak}

-- the fault of this pass at a spot of a file
abbrev pub fault_at : ℕ → List FileDesc → FileSpot → SourceFault
fault_at pass descs x = of_file pass (name_at descs x.file) x.spot.place x.spot.kind

abbrev pub AreWithin : List FileDesc → List FileSpot → Type 0
AreWithin descs spots = All (λ (x : FileSpot). x.file < length descs) spots

-- ---- the spots of each file as one list

abbrev pub in_file : ℕ → Spot → FileSpot
in_file a x = record { file = a; spot = x }

-- those of files of which the first has this position
abbrev pub spots_from : ℕ → List (Vec Spot Global) → List FileSpot
spots_from a [] = []
spots_from a (row ∷ rows) = map (in_file a) row.items ++ spots_from (a + 1) rows

-- ---- types

-- exactly the faults of the types of one file
pub record AreTypeFaults (links : Linked) (index : Index) (a : ℕ) (desc : FileDesc) (faults : List Spot) : Type 0 where
  pub all : (x : Spot) → Contains faults x ↔ TypesBreakAt links index a desc x
  pub order : AllPairs SpotPrecedes faults

-- exactly those of all files
pub record AreAllTypeFaults (descs : List FileDesc) (spots : List FileSpot) : Type 0 where
  pub all : (x : FileSpot) → Contains spots x ↔ ((desc : FileDesc) × StandsAt descs x.file desc
      × TypesBreak (occurrences descs) (Sees descs x.file) desc x.spot)
  pub order : AllPairs Precedes spots

-- imports and names are right, so that types can be looked up
pub record CanBeTyped (limits : Limits) (descs : List FileDesc) : Type 0 where
  pub imports : NoneBad descs
  pub few : length (occurrences descs) ≤ limit_of limits limit.Names
  pub names : NoneTwice (occurrences descs)

-- ---- a pass

-- exactly where what sources describe breaks a rule of the pass over imports, over names or over types
pub data AreSpotsOf (limits : Limits) (descs : List FileDesc) : ℕ → List FileSpot → Type 0 where
  of_imports : (spots : List FileSpot) → AreAllBad descs spots → AreSpotsOf limits descs 2 spots
  of_names : (spots : List FileSpot) → AreAllTwice (occurrences descs) spots
      → length (occurrences descs) ≤ limit_of limits limit.Names → AreSpotsOf limits descs 3 spots
  of_types : (spots : List FileSpot) → (CanBeTyped limits descs → AreAllTypeFaults descs spots)
      → AreSpotsOf limits descs 4 spots

-- there are too many names, or it is another pass
pub record HasNoSpots (limits : Limits) (descs : List FileDesc) (pass : ℕ) : Type 0 where
  pub imports : pass ≡ 2 → ⊥
  pub names : pass ≡ 3 → limit_of limits limit.Names < length (occurrences descs)
  pub types : pass ≡ 4 → ⊥

-- a fault of one of these passes
abbrev pub IsLater : SourceFault → Type 0
IsLater x = (x.pass ≡ 2) ⊎ (x.pass ≡ 3) ⊎ (x.pass ≡ 4)
