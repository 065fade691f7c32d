-- Paths in rules, as make and ninja read them.
use Rattle.std.specs.Prelude.{◌==◌, ℕ, List, codes, if◌then◌else◌}
use Rattle.std.specs.Char.{encode_utf8}
use Rattle.std.specs.List.{flat_map}
use Rattle.std.specs.Str.{chars}

-- a blank and `#` behind a backslash, and `$` twice
abbrev pub rule_char : ℕ → List ℕ
rule_char c = if c == 32 then codes "\\ " else (if c == 35 then codes "\\#" else (if c == 36 then codes "$$"
    else encode_utf8 c))

abbrev pub rule_word : List ℕ → List ℕ
rule_word path = flat_map rule_char (chars path)
