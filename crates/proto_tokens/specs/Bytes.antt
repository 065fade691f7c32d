-- Letters, digits, and the other classes of bytes.
use Rattle.std.specs.Prelude.{ℕ, Bool, false, not, ◌&&◌, ◌||◌, ◌==◌, List, [], ◌∷◌}
use Rattle.std.specs.Str.{byte}
use Rattle.std.specs.Int.{is_in_range}
use Rattle.std.specs.Char.{is_ascii_alphabetic, is_ascii_digit, is_ascii_graphic}

-- space, tab, LF, vertical tab, form feed or CR
abbrev pub is_blank : ℕ → Bool
is_blank b = b == 32 || is_in_range 9 13 b

-- a letter or `_`
abbrev pub is_letter : ℕ → Bool
is_letter b = is_ascii_alphabetic b || b == byte "_"

-- a letter, a digit or `_`
abbrev pub is_word : ℕ → Bool
is_word b = is_letter b || is_ascii_digit b

-- what may not stand directly after a number: a letter, a digit, `_` or `.`
abbrev pub is_numeric : ℕ → Bool
is_numeric b = is_word b || b == byte "."

-- `'` or `"`
abbrev pub is_quote : ℕ → Bool
is_quote b = b == byte "\"" || b == byte "'"

-- a visible ASCII byte that begins no other token
abbrev pub is_punctuation : ℕ → Bool
is_punctuation b = is_ascii_graphic b && not (is_word b || is_quote b)

-- `/` or `*`, which make a `/` before them a comment's
abbrev pub is_slash_or_star : ℕ → Bool
is_slash_or_star b = b == byte "/" || b == byte "*"

-- any byte but LF, which ends a line
abbrev pub is_in_line : ℕ → Bool
is_in_line b = not (b == 10)

-- there is a first byte, and it passes
abbrev pub begins : (ℕ → Bool) → List ℕ → Bool
begins p [] = false
begins p (b ∷ bs) = p b
