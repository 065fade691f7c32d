-- Words of private contracts: the steps of a resolution.
use Rattle.std.specs.List.{position}
use Rattle.std.specs.Prelude.{◌≡◌, ◌⊎◌, ℕ, ◌<◌, List, length, take, Bool, Option, None, Some, is_some, IsTrue, MatchOption}
use Rattle.proto_desc.specs.DeclaredNames.{scoped}
use Rattle.proto_desc.specs.declared.name_kind.NameKind.{NameKind}
use Rattle.proto_desc.specs.declared.name_kind.NameKind.TheVariants as kind
use Rattle.proto_names.specs.Around.{scope_at}
use Rattle.proto_names.specs.Occurrences.{Occurrence}
use Rattle.proto_names.specs.Resolution.{is_message, is_type, is_scope, Decides, IsType, Visible}
use Rattle.proto_names.specs.Runs.{at}
use Rattle.proto_names.specs.Scopes.{is_dot}
use Rattle.proto_names.specs.declared.resolve.Decision.{Decision}
use Rattle.proto_names.specs.declared.resolve.Decision.TheVariants as decision
use Rattle.proto_names.specs.declared.resolve.FoundInside.{FoundInside}
use Rattle.proto_names.specs.declared.resolve.FoundInside.TheVariants.{Here, Outside}
use Rattle.proto_names.specs.declared.resolve.FoundType.{FoundType}
use Rattle.proto_names.specs.declared.visible.Role.{Role}
use Rattle.proto_names.specs.declared.visible.Role.TheVariants as role

-- whether a kind fits what a name is looked up as
abbrev pub fits : Role → Option NameKind → Bool
fits role.Message = is_message
fits role.Type = is_type
fits role.Scope = is_scope

-- one of the occurrences is of an accepted kind in such a file
abbrev pub HasOneIn : List Occurrence → (Option NameKind → Bool) → (ℕ → Type 0) → Type 0
HasOneIn os accepts In =
    (k : ℕ) × (k < length os) × IsTrue (accepts (at os k).kind) × In (at os k).file

-- none of the occurrences is a type
abbrev pub HasNoType : List Occurrence → (ℕ → Type 0) → Type 0
HasNoType os In = (HasOneIn os is_message In → ⊥) × (HasOneIn os is_type In → ⊥)

-- one of the occurrences is a type, of this kind
abbrev pub IsTypeAmong : List Occurrence → (ℕ → Type 0) → NameKind → Type 0
IsTypeAmong os In what = (HasOneIn os is_message In × (what ≡ kind.Message))
    ⊎ ((HasOneIn os is_message In → ⊥) × HasOneIn os is_type In × (what ≡ kind.Enum))

-- a full name is no type
abbrev pub IsNoType : List Occurrence → (ℕ → Type 0) → List ℕ → Type 0
IsNoType os Seen full = (Visible os Seen is_message full → ⊥) × (Visible os Seen is_type full → ⊥)

-- what stands before a place, or all where there is none
abbrev pub before : Option ℕ → List ℕ → List ℕ
before None spelled = spelled
before (Some k) spelled = take k spelled

-- the first part of a spelled name: all before its first dot, or all of it
abbrev pub first_part : List ℕ → List ℕ
first_part spelled = before (position is_dot spelled) spelled

-- whether more than the first part is spelled
abbrev pub has_dot : List ℕ → Bool
has_dot spelled = is_some (position is_dot spelled)

-- what a scope decides of a spelled name: that it is a type of a kind there, or only that it decides
abbrev pub IsDecision : List Occurrence → (ℕ → Type 0) → List ℕ → List ℕ → Decision → Type 0
IsDecision os Seen c spelled (decision.Known what) =
    Decides os Seen c spelled × IsType os Seen (scoped c spelled) what
IsDecision os Seen c spelled decision.Scope = Decides os Seen c spelled

-- none of some scopes decides what a spelled name means
abbrev pub NoneDecides : List Occurrence → (ℕ → Type 0) → List (List ℕ) → List ℕ → Type 0
NoneDecides os Seen scopes spelled = (k : ℕ) → k < length scopes → Decides os Seen (scope_at scopes k) spelled → ⊥

-- the first that does
pub record IsFirstDecided (os : List Occurrence) (Seen : ℕ → Type 0) (scopes : List (List ℕ))
    (spelled c : List ℕ) : Type 0 where
  pub at : ℕ
  pub within : at < length scopes
  pub is : scope_at scopes at ≡ c
  pub before : (k : ℕ) → k < at → Decides os Seen (scope_at scopes k) spelled → ⊥

-- what a spelled name is in a scope: this type, or none
abbrev pub IsFoundIn : List Occurrence → (ℕ → Type 0) → List ℕ → List ℕ → Option FoundType → Type 0
IsFoundIn os Seen c spelled found = MatchOption found ((what : NameKind) → IsType os Seen (scoped c spelled) what → ⊥)
    (λ t. (scoped t.scope.now t.name.now ≡ scoped c spelled) × IsType os Seen (scoped c spelled) t.kind)

-- what it is in the first of some scopes that decides, or that none does
abbrev pub IsFoundAmong : List Occurrence → (ℕ → Type 0) → List (List ℕ) → List ℕ → FoundInside → Type 0
IsFoundAmong os Seen scopes spelled (Here found) = (c : List ℕ) × IsFirstDecided os Seen scopes spelled c
    × Decides os Seen c spelled × IsFoundIn os Seen c spelled found
IsFoundAmong os Seen scopes spelled Outside = NoneDecides os Seen scopes spelled
