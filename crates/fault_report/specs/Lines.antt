-- The line around a place of a text: the bytes between the ends of lines.
use Rattle.std.specs.Prelude.{◌==◌, ◌-◌, ℕ, List, [], ◌∷◌, drop, filter, length, map, nat_eq, take, if◌then◌else◌}
use Rattle.std.specs.List.{after_last, before_first, ends_with, enumerate_from}

-- the bytes after the last LF before it
abbrev pub line_before : List ℕ → ℕ → List ℕ
line_before text place = after_last (λ b. b == 10) (take place text)

abbrev pub to_line_end : List ℕ → List ℕ
to_line_end text = before_first (λ b. b == 10) text

abbrev pub without_cr : List ℕ → List ℕ
without_cr line = if ends_with nat_eq line (13 ∷ []) then take (length line - 1) line else line

-- the bytes from it to the next LF or CR LF
abbrev pub line_after : List ℕ → ℕ → List ℕ
line_after text place = without_cr (to_line_end (drop place text))

-- the place of each LF
abbrev pub line_ends : List ℕ → List ℕ
line_ends text = map (λ e. e.0) (filter (λ e. e.1 == 10) (enumerate_from 0 text))
