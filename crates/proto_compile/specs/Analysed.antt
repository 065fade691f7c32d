-- What the passes up to types find of sources without a fault.
use Rattle.std.specs.Prelude.{ℕ, ◌+◌, List, [], ◌∷◌}
use Rattle.proto_base.specs.declared.limits.Limits.{Limits}
use Rattle.proto_desc.specs.declared.file.FileDesc.{FileDesc}
use Rattle.proto_base.specs.declared.spot.Spot.{Spot}
use Rattle.proto_links.specs.Linked.{Linked, AreLinked}
use Rattle.proto_names.specs.Index.{Index, Indexes}
use Rattle.proto_names.specs.Resolution.{SeenBy}
use Rattle.proto_types.specs.References.{TypesBreak}
use Rattle.proto_types.specs.Typed.{IsTypedFile}
use Rattle.proto_compile.specs.Descriptions.{Describe}
use Rattle.proto_compile.specs.declared.source.Source.{Source}

-- descriptors with their links, and the index of their names
pub record IsAnalysed (limits : Limits) (sources files : List Source) (descs : List FileDesc) (links : Linked)
    (index : Index) : Type 0 where
  pub described : Describe limits sources files descs
  pub linked : AreLinked descs links
  pub indexed : Indexes descs limits index

-- what is wrong with the types of the file at a position
abbrev pub TypesBreakAt : Linked → Index → ℕ → FileDesc → Spot → Type 0
TypesBreakAt links index a desc = TypesBreak index.occurrences (SeenBy links a) desc

-- the descriptor of the file at a position breaks no rule of types, and this is what it is with its types resolved
pub record TypesAt (links : Linked) (index : Index) (a : ℕ) (desc typed : FileDesc) : Type 0 where
  pub whole : (x : Spot) → TypesBreakAt links index a desc x → ⊥
  pub resolved : IsTypedFile index.occurrences (SeenBy links a) desc typed

-- what stands at one position in two lists is so related, where their first elements stand at a
abbrev pub AllZipFrom : {X Y : Type 0} → (ℕ → X → Y → Type 0) → ℕ → List X → List Y → Type 0
AllZipFrom R a [] [] = Unit {0}
AllZipFrom R a [] (y ∷ ys) = ⊥
AllZipFrom R a (x ∷ xs) [] = ⊥
AllZipFrom R a (x ∷ xs) (y ∷ ys) = R a x y × AllZipFrom R (a + 1) xs ys

-- the same for files of which the first stands at a position
abbrev pub AreTypedFrom : Linked → Index → ℕ → List FileDesc → List FileDesc → Type 0
AreTypedFrom links index = AllZipFrom (TypesAt links index)

-- sources without a fault of these passes, with their descriptors resolved
pub record AreResolved (limits : Limits) (sources files : List Source) (typed : List FileDesc) (links : Linked)
    (index : Index) : Type 0 where
  pub descs : List FileDesc
  pub analysed : IsAnalysed limits sources files descs links index
  pub each : AreTypedFrom links index 0 descs typed
