-- Lines and columns, as users see them: both from 1. A line ends after its LF, and a column counts bytes.
use Rattle.std.specs.Prelude.{◌==◌, ◌+◌, ℕ, List, not, take}
use Rattle.std.specs.List.{count_by, suffix_len}

-- one more than the LFs before the place
abbrev pub line_at : List ℕ → ℕ → ℕ
line_at text place = 1 + count_by (λ b. b == 10) (take place text)

-- one more than the bytes after the last LF before it
abbrev pub column_at : List ℕ → ℕ → ℕ
column_at text place = 1 + suffix_len (λ b. not (b == 10)) (take place text)
