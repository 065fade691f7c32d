-- Where things stand, by bytes from the start of a text.
use Rattle.std.specs.Prelude.{ℕ, ◌≤◌, List}
use Rattle.std.specs.List.{AllByRecursion}

-- none of these places lies behind n
abbrev pub AllWithin : ℕ → List ℕ → Type 0
AllWithin n places = AllByRecursion (λ place. place ≤ n) places
