-- What a spelled name is found to mean.
use Rattle.std.specs.Prelude.{◌↔◌, ℕ, List, Option, MatchOption}
use Rattle.proto_desc.specs.DeclaredNames.{scoped}
use Rattle.proto_desc.specs.declared.name_kind.NameKind.{NameKind}
use Rattle.proto_names.specs.Occurrences.{Occurrence}
use Rattle.proto_names.specs.Resolution.{Resolves, ResolvesNowhere}
use Rattle.proto_names.specs.declared.resolve.FoundType.{FoundType}
use Rattle.proto_names.specs.declared.resolve.FoundInside.{FoundInside}
use Rattle.proto_names.specs.declared.resolve.FoundInside.TheVariants.{Here, Outside}

-- what a name means in a scope, as a type: this one, or none
abbrev pub IsFound : List Occurrence → (ℕ → Type 0) → (scope spelled : List ℕ) → Option FoundType → Type 0
IsFound os Seen scope spelled found = MatchOption found (ResolvesNowhere os Seen scope spelled)
    (λ t. Resolves os Seen scope spelled (scoped t.scope.now t.name.now) t.kind)

-- the same, or that it means what it means in a scope around this one
abbrev pub IsFoundInside : List Occurrence → (ℕ → Type 0) → (scope outside spelled : List ℕ) → FoundInside → Type 0
IsFoundInside os Seen scope outside spelled (Here found) = IsFound os Seen scope spelled found
IsFoundInside os Seen scope outside spelled Outside = (full : List ℕ) (what : NameKind)
    → Resolves os Seen outside spelled full what ↔ Resolves os Seen scope spelled full what
