-- Texts as other programs read them: in JSON, and in the commands of GitHub's workflows.
use Rattle.std.specs.Prelude.{◌==◌, ◌/◌, ◌%◌, ℕ, List, ◌∷◌, ◌++◌, ◌||◌, codes, false, if◌then◌else◌, nat_lt}
use Rattle.std.specs.Char.{encode_utf8}
use Rattle.std.specs.Fmt.{digits}
use Rattle.std.specs.List.{flat_map}
use Rattle.std.specs.Str.{chars}

-- RFC 8259, section 7: quotes and backslashes behind a backslash, control characters by their numbers
abbrev pub json_char : ℕ → List ℕ
json_char c = if (c == 34) || (c == 92) then 92 ∷ encode_utf8 c else (if nat_lt c 32
    then codes "\\u00" ++ (digits 16 false (c / 16) ++ digits 16 false (c % 16)) else encode_utf8 c)

abbrev pub json_text : List ℕ → List ℕ
json_text text = flat_map json_char (chars text)

-- a message: `%`, CR and LF by their numbers
abbrev pub message_char : ℕ → List ℕ
message_char c = if c == 37 then codes "%25" else (if c == 13 then codes "%0D" else (if c == 10 then codes "%0A"
    else encode_utf8 c))

abbrev pub message_text : List ℕ → List ℕ
message_text text = flat_map message_char (chars text)

-- a property: what ends one, too
abbrev pub property_char : ℕ → List ℕ
property_char c = if c == 58 then codes "%3A" else (if c == 44 then codes "%2C" else message_char c)

abbrev pub property_text : List ℕ → List ℕ
property_text text = flat_map property_char (chars text)
