-- What a spelled name means in a scope (language guide, "Packages and Name Resolution").
use Rattle.std.specs.Prelude.{◌≡◌, ◌⊎◌, ℕ, ◌≤◌, List, ◌∷◌, length, take, Bool, true, false, IsTrue, Option, None, Some, Contains, MatchOption}
use Rattle.std.specs.List.{position}
use Rattle.proto_desc.specs.DeclaredNames.{scoped}
use Rattle.proto_desc.specs.declared.name_kind.NameKind.{NameKind}
use Rattle.proto_desc.specs.declared.name_kind.NameKind.TheVariants as kind
use Rattle.proto_links.specs.Linked.{Linked, sees}
use Rattle.proto_names.specs.Occurrences.{Occurrence}
use Rattle.proto_names.specs.Scopes.{is_dot, IsCandidate}

abbrev pub is_message : Option NameKind → Bool
is_message (Some kind.Message) = true
is_message _ = false

-- messages and enums are types
abbrev pub is_type : Option NameKind → Bool
is_type (Some kind.Message) = true
is_type (Some kind.Enum) = true
is_type _ = false

-- packages, messages, enums and services are scopes
abbrev pub is_scope : Option NameKind → Bool
is_scope None = true
is_scope (Some kind.Message) = true
is_scope (Some kind.Enum) = true
is_scope (Some kind.Service) = true
is_scope _ = false

-- an occurrence of this name, of such a kind, in a file that is seen
abbrev pub Visible : List Occurrence → (ℕ → Type 0) → (Option NameKind → Bool) → List ℕ → Type 0
Visible os Seen accepts name =
    (o : Occurrence) × Contains os o × (o.name ≡ name) × IsTrue (accepts o.kind) × Seen o.file

-- a scope decides what a spelled name means: all of it is a type there, or of a compound name the first part is a scope
abbrev pub Decides : List Occurrence → (ℕ → Type 0) → List ℕ → List ℕ → Type 0
Decides os Seen c spelled =
    MatchOption (position is_dot spelled) (Visible os Seen is_type (scoped c spelled))
    (λ k. Visible os Seen is_scope (scoped c (take k spelled)))

-- the longest of the scopes around a name that decides
pub record IsInnermost (os : List Occurrence) (Seen : ℕ → Type 0) (scope spelled c : List ℕ) : Type 0 where
  pub candidate : IsCandidate c scope
  pub decides : Decides os Seen c spelled
  pub longest : (d : List ℕ) → IsCandidate d scope → Decides os Seen d spelled → length d ≤ length c

abbrev pub IsAbsolute : List ℕ → List ℕ → Type 0
IsAbsolute spelled full = spelled ≡ 46 ∷ full

-- the full name that a spelled one means in a scope: what stands behind a leading dot, else the name in the innermost
-- scope that decides
abbrev pub Means : List Occurrence → (ℕ → Type 0) → List ℕ → List ℕ → List ℕ → Type 0
Means os Seen scope spelled full =
    IsAbsolute spelled full
    ⊎ (((rest : List ℕ) → IsAbsolute spelled rest → ⊥) × (c : List ℕ) × IsInnermost os Seen scope spelled c
    × (full ≡ scoped c spelled))

-- the type of a full name
pub data IsType (os : List Occurrence) (Seen : ℕ → Type 0) (full : List ℕ) : NameKind → Type 0 where
  message : Visible os Seen is_message full → IsType os Seen full kind.Message
  enumeration : Visible os Seen is_type full → (Visible os Seen is_message full → ⊥) → IsType os Seen full kind.Enum

-- a spelled name resolves to this full name of this kind
pub record Resolves (os : List Occurrence) (Seen : ℕ → Type 0) (scope spelled full : List ℕ)
    (what : NameKind) : Type 0 where
  pub means : Means os Seen scope spelled full
  pub type : IsType os Seen full what

abbrev pub ResolvesNowhere : List Occurrence → (ℕ → Type 0) → List ℕ → List ℕ → Type 0
ResolvesNowhere os Seen scope spelled = (full : List ℕ) (what : NameKind) → Resolves os Seen scope spelled full what → ⊥

-- the files that a file sees
abbrev pub SeenBy : Linked → ℕ → ℕ → Type 0
SeenBy links file b = IsTrue (sees links file b)
