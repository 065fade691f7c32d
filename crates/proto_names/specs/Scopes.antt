-- Scopes: texts of parts with dots between them.
use Rattle.std.specs.Prelude.{◌≡◌, ◌⊎◌, ℕ, List, [], ◌∷◌, ◌++◌, Bool, ◌==◌, map, if◌then◌else◌}

abbrev pub is_dot : ℕ → Bool
is_dot b = b == 46

-- the prefixes of a text that a dot or its end follows, the longest first
abbrev pub prefixes : List ℕ → List (List ℕ)
prefixes [] = [] ∷ []
prefixes (b ∷ bs) = map (λ prefix. b ∷ prefix) (prefixes bs) ++ (if is_dot b then [] ∷ [] else [])

-- a scope, or one around it: a prefix of whole parts, the empty one too
abbrev pub IsCandidate : List ℕ → List ℕ → Type 0
IsCandidate c scope = (c ≡ []) ⊎ (c ≡ scope) ⊎ ((rest : List ℕ) × (scope ≡ c ++ 46 ∷ rest))
