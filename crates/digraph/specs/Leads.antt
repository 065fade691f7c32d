-- Ways over the edges of a graph, or over any relation.
use Rattle.std.specs.Prelude.{ℕ}

-- the reflexive, transitive closure of R, from a to c
pub data Leads (R : ℕ → ℕ → Type 0) (c : ℕ) : ℕ → Type 0 where
  here : Leads R c c
  through : (a b : ℕ) → R a b → Leads R c b → Leads R c a
