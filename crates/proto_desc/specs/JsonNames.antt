-- JSON names of fields.
use Rattle.std.specs.Prelude.{ℕ, List, [], ◌∷◌, ◌++◌, if◌then◌else◌, ◌==◌, encode_utf8_all}
use Rattle.std.specs.Str.{chars}
use Rattle.std.specs.Char.{to_ascii_uppercase}

-- what becomes of a character, by the one before it: `_` is dropped, and a lower-case ASCII letter directly behind `_`
-- is raised
abbrev pub letter_behind : ℕ → ℕ → List ℕ
letter_behind before c = if c == 95 then [] else ((if before == 95 then to_ascii_uppercase c else c) ∷ [])

abbrev pub letters_behind : ℕ → List ℕ → List ℕ
letters_behind before [] = []
letters_behind before (c ∷ cs) = letter_behind before c ++ letters_behind c cs

-- a name whose first character is taken as if it stood behind `first`
abbrev pub raised : ℕ → List ℕ → List ℕ
raised first name = encode_utf8_all (letters_behind first (chars name))

-- nothing stands before the first character of a field's name, which is as if a blank did
abbrev pub json_name_of : List ℕ → List ℕ
json_name_of name = raised 32 name
