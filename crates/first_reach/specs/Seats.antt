-- What the marks of seats post.
use Rattle.std.specs.Prelude.{◌≡◌, ℕ, Option, List, Contains}
use Rattle.share_work.specs.Marks.{MarkSeatValue, marked_posts}
use Rattle.first_reach.specs.Carried.{reached}

-- the seat's marks post n at g
abbrev pub HasPosted : (ℕ → List ℕ) → MarkSeatValue → ℕ → ℕ → Type 0
HasPosted reach s g n = Contains (marked_posts reach s.view.marks) (g, n)

-- the mark of the root at position i posts n at g
abbrev pub Posts : (ℕ → List ℕ) → ℕ → Option ℕ → ℕ → ℕ → Type 0
Posts reach i root g n = (n ≡ i) × Contains (reached reach root) g
