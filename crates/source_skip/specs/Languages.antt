-- Texts of another language.
use Rattle.std.specs.Prelude.{Bool, false, not, ◌||◌, List, [], ◌∷◌, codes, bytes_eq}
use Rattle.proto_syntax.specs.Grammar.{OneOf, fits}
use Rattle.proto_tokens.specs.Token.{Lexeme, Spelled, string_literal}

-- a string that says proto2, as it is written
abbrev pub is_proto2 : Lexeme → Bool
is_proto2 (string_literal s) = bytes_eq s (codes "\"proto2\"") || bytes_eq s (codes "'proto2'")
is_proto2 other = false

abbrev pub is_syntax : Spelled → Bool
is_syntax t = fits (OneOf (codes "syntax" ∷ [])) t.lexeme

-- a text of another language: it begins with another token than `syntax`, or says that it is proto2
abbrev pub begins_other : List Spelled → Bool
begins_other [] = false
begins_other (s ∷ equals ∷ version ∷ ts) = not (is_syntax s) || is_proto2 version.lexeme
begins_other (s ∷ ts) = not (is_syntax s)
