-- Words of the laws.
use Rattle.std.specs.Prelude.{◌≡◌, ℕ, Bool, false, ◌==◌, ◌&&◌, ◌||◌, List, [], ◌∷◌, codes}
use Rattle.std.specs.Str.{byte}
use Rattle.proto_syntax.specs.Grammar.{OneOf, NoneOf, fits}
use Rattle.proto_tokens.specs.Token.{Spelled}
use Rattle.source_skip.specs.Shapes.{is_symbol, unwritten, unwritten_of_fields}

-- an LF
abbrev pub is_line_end : ℕ → Bool
is_line_end b = b == 10

-- Two tokens in a row with which something that goes may begin: `option` before `(` or a name that no table has,
-- `extend` before a name, `import weak`, and `[` or a comma before `(` or a name that no table has.
abbrev pub begins_gone : Spelled → Spelled → Bool
begins_gone a b =
    (fits (OneOf (codes "option" ∷ [])) a.lexeme && (is_symbol (byte "(") b || fits (OneOf unwritten) b.lexeme))
    || ((fits (OneOf (codes "extend" ∷ [])) a.lexeme && (is_symbol (byte ".") b || fits (NoneOf []) b.lexeme))
    || ((fits (OneOf (codes "import" ∷ [])) a.lexeme && fits (OneOf (codes "weak" ∷ [])) b.lexeme)
    || ((is_symbol (byte "[") a || is_symbol (byte ",") a)
    && (is_symbol (byte "(") b || fits (OneOf unwritten_of_fields) b.lexeme))))

-- no two tokens in a row are such
abbrev pub IsPlain : List Spelled → Type 0
IsPlain [] = Unit {0}
IsPlain (a ∷ []) = Unit {0}
IsPlain (a ∷ b ∷ ts) = (begins_gone a b ≡ false) × IsPlain (b ∷ ts)
