-- Words of private contracts: the names that were looked up last in a scope.
use Rattle.std.specs.Prelude.{◌≡◌, ◌⊎◌, ℕ, List, [], ◌∷◌, ◌++◌, Option, None, Some, IfSome, All, Contains}
use Rattle.proto_base.specs.Least.{spot}
use Rattle.proto_base.specs.declared.kind.Kind.TheVariants as kind
use Rattle.proto_base.specs.declared.place.Place.{Place}
use Rattle.proto_desc.specs.DeclaredNames.{scoped}
use Rattle.proto_desc.specs.declared.name_kind.NameKind.{NameKind}
use Rattle.proto_desc.specs.declared.name_kind.NameKind.TheVariants as name_kind
use Rattle.proto_names.specs.Occurrences.{Occurrence}
use Rattle.proto_names.specs.Around.{AreScopes}
use Rattle.proto_names.specs.Found.{IsFound}
use Rattle.proto_names.specs.Resolution.{SeenBy}
use Rattle.proto_names.specs.Scopes.{IsCandidate}
use Rattle.proto_names.specs.declared.resolve.FoundType.{FoundType}
use Rattle.proto_names.specs.declared.resolve.Want.{Want}
use Rattle.proto_names.specs.declared.resolve.Want.TheVariants as want
use Rattle.proto_types.specs.Steps.{IsNaming, type_kind_of}
use Rattle.proto_types.specs.declared.meaning.Meaning.{Meaning}
use Rattle.proto_types.specs.declared.meaning.Meaning.TheVariants.{Wrong}
use Rattle.proto_types.specs.declared.finder.Spelling.{Spelling}
use Rattle.proto_types.specs.declared.recalled.Recalled.{Recalled}
use Rattle.proto_types.specs.Sight.{Sight}

-- what a name means in a scope, in a file
abbrev pub IsFoundInFile : Sight → List ℕ → List ℕ → Option FoundType → Type 0
IsFoundInFile here = IsFound here.index.occurrences (SeenBy here.links here.file)

-- names with what they mean in a scope
abbrev pub AreRecalled : List Occurrence → (ℕ → Type 0) → List ℕ → List Recalled → Type 0
AreRecalled os Seen scope recalled = All (λ r. IsFound os Seen scope r.spelled.now r.found) recalled

-- the same of slots, of which some have a name
abbrev pub AreKept : List Occurrence → (ℕ → Type 0) → List ℕ → List (Option Recalled) → Type 0
AreKept os Seen scope slots =
    (r : Recalled) → Contains slots (Some r) → IsFound os Seen scope r.spelled.now r.found

-- one more name is recalled, beside the others or in their place
abbrev pub Remembers : Recalled → (old new : List Recalled) → Type 0
Remembers one old new = (new ≡ one ∷ []) ⊎ (new ≡ old ++ one ∷ [])

-- such a type is wanted
abbrev pub Fits : Want → NameKind → Type 0
Fits wanted what = wanted ≡ want.MessageOnly → what ≡ name_kind.Message

-- what was found, where such a type is wanted
abbrev pub IsMeaningBy : Want → Option FoundType → Place → Meaning → Type 0
IsMeaningBy wanted None place meaning = meaning ≡ Wrong (spot place kind.TypeNotFound)
IsMeaningBy wanted (Some t) place meaning =
    (Fits wanted t.kind → IsNaming (scoped t.scope.now t.name.now) (type_kind_of t.kind) meaning)
    × ((Fits wanted t.kind → ⊥) → meaning ≡ Wrong (spot place kind.TypeNotMessage))

-- a scope in a file's package, with those around it that stand in the package, if they are listed, and what is recalled
-- of it
pub record IsSpelling (here : Sight) (inner : Spelling) : Type 0 where
  pub inside : IsCandidate here.«package» inner.scope.now
  pub around : IfSome inner.scopes (AreScopes inner.scope.now (λ c. IsCandidate c here.«package»))
  pub recalled : AreRecalled here.index.occurrences (SeenBy here.links here.file) inner.scope.now
      inner.recalled.items
