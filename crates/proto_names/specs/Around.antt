-- Lists of scopes, each of which stands in the next one.
use Rattle.std.specs.Prelude.{◌≡◌, ◌⊎◌, ℕ, ◌<◌, List, [], length, map, slice_index_or}
use Rattle.proto_names.specs.Scopes.{IsCandidate}
use Rattle.proto_names.specs.declared.scope.Scope.{Scope}

abbrev pub text_of : Scope → List ℕ
text_of scope = scope.text.now

abbrev pub texts_of : List Scope → List (List ℕ)
texts_of scopes = map text_of scopes

abbrev pub scope_at : List (List ℕ) → ℕ → List ℕ
scope_at scopes k = slice_index_or scopes k []

abbrev pub IsNoScope : List ℕ → Type 0
IsNoScope c = ⊥

-- a scope and those around it, the longest first, but for some that are shorter than all of them
pub record AreScopes (scope : List ℕ) (Outside : List ℕ → Type 0) (scopes : List (List ℕ)) : Type 0 where
  pub around : (k : ℕ) → k < length scopes → IsCandidate (scope_at scopes k) scope
  pub all : (c : List ℕ) → IsCandidate c scope
      → ((k : ℕ) × (k < length scopes) × (scope_at scopes k ≡ c)) ⊎ Outside c
  pub falls : (j k : ℕ) → j < k → k < length scopes → length (scope_at scopes k) < length (scope_at scopes j)
  pub outside : (k : ℕ) (c : List ℕ) → k < length scopes → Outside c → length c < length (scope_at scopes k)
