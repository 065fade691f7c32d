-- What a list of tokens is: a file with its tree, or at which token it stops being the front of any file, and why.
use Rattle.std.specs.Prelude.{◌≡◌, ℕ, ◌+◌, ◌-◌, ◌<◌, ◌≤◌, ◌==◌, Bool, false, ◌&&◌, ◌||◌, cond, if◌then◌else◌, List, [], ◌∷◌, length, take, codes, slice_get, Option, None, Some}
use Rattle.std.specs.Str.{byte}
use Rattle.proto_tokens.specs.Token.{Lexeme, Spelled}
use Rattle.proto_base.specs.declared.kind.Kind.{Kind}
use Rattle.proto_base.specs.declared.kind.Kind.TheVariants.{UnexpectedEnd, TooDeep, CustomOption, LeftOut, Unexpected}
use Rattle.proto_syntax.specs.Grammar.{OneOf, Symbol, fits, Tree, flatten, IsTree, IsFront}
use Rattle.proto_syntax.specs.Language.{file}

-- a tree of a file of at most that depth, whose tokens these are
pub record IsTreeOf (limit : ℕ) (ts : List Spelled) (x : Tree) : Type 0 where
  pub tree : IsTree (file limit) x
  pub tokens : flatten x ≡ ts

-- Token k is the fault: the first k tokens are a front of a file, and the first k + 1 are not. Where all tokens are a
-- front and no file, k is their number.
pub record IsFaultAt (limit : ℕ) (ts : List Spelled) (k : ℕ) : Type 0 where
  pub within : k ≤ length ts
  pub front : IsFront (file limit) (take k ts)
  pub no_front : k < length ts → IsFront (file limit) (take (k + 1) ts) → ⊥
  pub no_file : (x : Tree) → IsTreeOf limit ts x → ⊥

-- without the limit of depth the grammar could go on with token k
abbrev pub GoesDeeper : List Spelled → ℕ → Type 0
GoesDeeper ts k = (limit : ℕ) × IsFront (file limit) (take (k + 1) ts)

-- the token before token k
abbrev pub token_before : List Spelled → ℕ → Option Spelled
token_before ts k = if k == 0 then None else slice_get ts (k - 1)

-- a token behind which `(` begins the name of a custom option
abbrev pub is_before_option_name : Lexeme → Bool
is_before_option_name w =
    fits (OneOf (codes "option" ∷ [])) w || (fits (Symbol (byte "[")) w || fits (Symbol (byte ",")) w)

abbrev pub opens_custom_option : Option Spelled → Spelled → Bool
opens_custom_option None t = false
opens_custom_option (Some p) t = is_before_option_name p.lexeme && fits (Symbol (byte "(")) t.lexeme

-- the words that begin what is left out of the language
abbrev pub left_out_words : List (List ℕ)
left_out_words = codes "extend" ∷ codes "extensions" ∷ codes "required" ∷ codes "group" ∷ codes "weak" ∷ []

-- the kind of a fault at this token, where it is not the depth
abbrev pub kind_of : Option Spelled → Spelled → Kind
kind_of before t =
    cond (opens_custom_option before t) CustomOption (cond (fits (OneOf left_out_words) t.lexeme) LeftOut Unexpected)

-- The kind of the fault at token k: no token is left; without the limit of depth the grammar could go on with it; else
-- by the token and the one before it.
pub data IsKindOf (ts : List Spelled) (k : ℕ) : Kind → Type 0 where
  at_end : k ≡ length ts → IsKindOf ts k UnexpectedEnd
  too_deep : k < length ts → GoesDeeper ts k → IsKindOf ts k TooDeep
  other : {t : Spelled} → slice_get ts k ≡ Some t → (GoesDeeper ts k → ⊥)
      → IsKindOf ts k (kind_of (token_before ts k) t)
