-- Words of private contracts: what a walk over the names of types finds, and what it puts.
use Rattle.std.specs.Prelude.{◌≡◌, ◌⊎◌, ◌↔◌, ℕ, Bool, List, [], ◌∷◌, ◌++◌, Contains, flat_map}
use Rattle.std.specs.List.{AllZip}
use Rattle.proto_base.specs.declared.kind.Kind.TheVariants as kind
use Rattle.proto_desc.specs.declared.name_kind.NameKind.{NameKind}
use Rattle.proto_desc.specs.declared.name_kind.NameKind.TheVariants as name_kind
use Rattle.proto_desc.specs.declared.options.OptionDescriptor.{OptionDescriptor}
use Rattle.proto_desc.specs.declared.type_name.TypeKind.{TypeKind}
use Rattle.proto_desc.specs.declared.type_name.TypeKind.TheVariants as type_kind
use Rattle.proto_base.specs.Least.{spot}
use Rattle.proto_base.specs.Sets.{Each, Gains, Where}
use Rattle.proto_base.specs.declared.spot.Spot.{Spot}
use Rattle.proto_names.specs.Occurrences.{Occurrence}
use Rattle.proto_names.specs.Resolution.{SeenBy}
use Rattle.proto_names.specs.SeenAlike.{IsSeen}
use Rattle.proto_names.specs.declared.resolve.Want.TheVariants as want
use Rattle.proto_types.specs.References.{Reference, IsPacked, ReferenceBreaks, TypeNotFound, TypeNotMessage}
use Rattle.proto_types.specs.Sight.{Sight}
use Rattle.proto_types.specs.Typed.{Means}
use Rattle.proto_types.specs.declared.found.Found.{Found}
use Rattle.proto_types.specs.declared.meaning.Meaning.{Meaning}
use Rattle.proto_types.specs.declared.meaning.Meaning.TheVariants.{Named, Wrong}
use Rattle.proto_types.specs.declared.meaning.NamedType.{NamedType}

-- a scope's full name behind a leading dot, and nothing of the scope of what stands in no package
abbrev pub behind_dot : List ℕ → List ℕ
behind_dot [] = []
behind_dot (c ∷ cs) = 46 ∷ c ∷ cs

-- of the name of a message or an enum
abbrev pub type_kind_of : NameKind → TypeKind
type_kind_of name_kind.Message = type_kind.Message
type_kind_of name_kind.Field = type_kind.Enum
type_kind_of name_kind.Oneof = type_kind.Enum
type_kind_of name_kind.Enum = type_kind.Enum
type_kind_of name_kind.Value = type_kind.Enum
type_kind_of name_kind.Service = type_kind.Enum
type_kind_of name_kind.Method = type_kind.Enum

-- an option that a field of a message's type may not have
abbrev pub SetsPacked : OptionDescriptor → Spot → Type 0
SetsPacked o = Where (IsPacked o) (spot o.place kind.PackedOnMessage)

-- what is wrong with the options of a field whose type is of this kind
abbrev pub OptionsBreak : TypeKind → List OptionDescriptor → Spot → Type 0
OptionsBreak type_kind.Message options = Each options SetsPacked
OptionsBreak type_kind.Enum options = λ x. ⊥

-- what a full name of a type of this kind is found to be
abbrev pub IsNaming : List ℕ → TypeKind → Meaning → Type 0
IsNaming full what (Named t) = (t.full_name ≡ 46 ∷ full) × (t.kind ≡ what)
IsNaming full what (Wrong x) = ⊥

-- what one reference is found to be, whatever its options
abbrev pub IsMeaning : List Occurrence → (ℕ → Type 0) → Reference → Meaning → Type 0
IsMeaning os Seen r (Named t) = Means os Seen r t × (r.wanted ≡ want.MessageOnly → t.kind ≡ type_kind.Message)
IsMeaning os Seen r (Wrong x) = TypeNotFound os Seen r x ⊎ TypeNotMessage os Seen r x

-- one more meaning, as the type of a field with these options
abbrev pub Adds : Meaning → List OptionDescriptor → Found → Found → Type 0
Adds (Named t) options old new = (new.types.items ≡ old.types.items ++ t ∷ [])
    × Gains (OptionsBreak t.kind options) old.faults.items new.faults.items
Adds (Wrong x) options old new = Gains (λ y. y ≡ x) old.faults.items new.faults.items

-- what is found of some references: their faults, and where there are none, what they mean
pub record AreFound (os : List Occurrence) (Seen : ℕ → Type 0) (rs : List Reference) (found : Found) : Type 0 where
  pub faults : (x : Spot) → Contains found.faults.items x ↔ Each rs (ReferenceBreaks os Seen) x
  pub means : ((x : Spot) → Each rs (ReferenceBreaks os Seen) x → ⊥) → AllZip (Means os Seen) rs found.types.items

-- some more references are found
abbrev pub Finds : List Occurrence → (ℕ → Type 0) → List Reference → Found → Found → Type 0
Finds os Seen rs old new = (before : List Reference) → AreFound os Seen before old → AreFound os Seen (before ++ rs) new

-- the same in a file
abbrev pub MeansIn : Sight → Reference → Meaning → Type 0
MeansIn here = IsMeaning here.index.occurrences (SeenBy here.links here.file)

abbrev pub FindsIn : Sight → List Reference → Found → Found → Type 0
FindsIn here = Finds here.index.occurrences (SeenBy here.links here.file)

-- of types that begin with what some references mean, these are taken, and something is made
abbrev pub Puts : List Occurrence → (ℕ → Type 0) → List Reference → Type 0 → List NamedType → List NamedType → Type 0
Puts os Seen rs Made old new =
    (types rest : List NamedType) → AllZip (Means os Seen) rs types → old ≡ types ++ rest → (new ≡ rest) × Made

-- of an item, what its references mean is put, and it is typed: in every scope, whatever is declared and seen
pub record IsFilled {X : Type 0} (refs : List ℕ → X → List Reference) (Typed : List Occurrence → (ℕ → Type 0) → List ℕ
    → X → X → Type 0) (x y : X) (old new : List NamedType) : Type 0 where
  pub puts : (os : List Occurrence) (seen : ℕ → Bool) (scope : List ℕ)
      → Puts os (IsSeen seen) (refs scope x) (Typed os (IsSeen seen) scope x y) old new

-- the same of each item of a list
pub record AreFilled {X : Type 0} (refs : List ℕ → X → List Reference) (Typed : List Occurrence → (ℕ → Type 0) → List ℕ
    → X → X → Type 0) (xs ys : List X) (old new : List NamedType) : Type 0 where
  pub puts : (os : List Occurrence) (seen : ℕ → Bool) (scope : List ℕ)
      → Puts os (IsSeen seen) (flat_map (refs scope) xs) (AllZip (Typed os (IsSeen seen) scope) xs ys) old new
