-- How many items a piece has, where they are shared evenly.
use Rattle.std.specs.Prelude.{ℕ, ◌⊎◌, ◌≡◌, ◌≤◌, ◌*◌}

-- the greatest cut up to `most` by which each worker gets 64 pieces of so many items, or 1 where no cut gives as many
pub record IsEvenCut (workers most items cut : ℕ) : Type 0 where
  pub within : cut ≤ most
  pub even : (cut ≡ 1) ⊎ (cut * (workers * 64) ≤ items)
  pub some : 1 ≤ cut
  pub greatest : (c : ℕ) → c ≤ most → c * (workers * 64) ≤ items → c ≤ cut
