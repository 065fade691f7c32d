-- How a line is shown: as characters, cut around the place where it is long.
use Rattle.std.specs.Prelude.{◌==◌, ◌+◌, ◌-◌, ℕ, Bool, List, ◌++◌, codes, drop, length, map, nat_le, take, if◌then◌else◌}
use Rattle.std.specs.Char.{is_control}
use Rattle.std.specs.Str.{chars}
use Rattle.std.specs.Str.Lossy.{utf8_lossy}
use Rattle.fault_report.specs.Lines.{line_after, line_before}

-- a tab as it is, any other control character as `?`
abbrev pub shown_char : ℕ → ℕ
shown_char c = if c == 9 then c else (if is_control c then 63 else c)

-- the characters of bytes, with U+FFFD for those that are no UTF-8
abbrev pub shown : List ℕ → List ℕ
shown bytes = map shown_char (chars (utf8_lossy bytes))

-- the last hundred, the first hundred
abbrev pub cut_front : List ℕ → List ℕ
cut_front cs = if nat_le (length cs) 100 then cs else codes "..." ++ drop (length cs - 100) cs

abbrev pub cut_back : List ℕ → List ℕ
cut_back cs = if nat_le (length cs) 100 then cs else take 100 cs ++ codes "..."

-- whether both sides of the place have no more than two hundred
abbrev pub fits : List ℕ → List ℕ → Bool
fits before after = nat_le (length before + length after) 200

-- what is shown of the line before the place
abbrev pub front_of : List ℕ → List ℕ → List ℕ
front_of before after = if fits before after then before else cut_front before

abbrev pub back_of : List ℕ → List ℕ → List ℕ
back_of before after = if fits before after then after else cut_back after

abbrev pub shown_before : List ℕ → ℕ → List ℕ
shown_before text place = front_of (shown (line_before text place)) (shown (line_after text place))

-- and from it on
abbrev pub shown_after : List ℕ → ℕ → List ℕ
shown_after text place = back_of (shown (line_before text place)) (shown (line_after text place))

-- what stands below a character: a tab below a tab, else a blank
abbrev pub blank_below : ℕ → ℕ
blank_below c = if c == 9 then 9 else 32
