-- Where the token of a text ends that begins at a place.
use Rattle.std.specs.Prelude.{◌≡◌, ◌==◌, ℕ, IfSome, List, Option, None, Some, find, option_map}
use Rattle.proto_base.specs.declared.kind.Kind.{Kind}
use Rattle.proto_base.specs.declared.place.Place.{Place}
use Rattle.proto_tokens.specs.ProgramTokens.{tokens_of}
use Rattle.proto_tokens.specs.Spelling.{IsFault, IsTokenList}
use Rattle.proto_tokens.specs.Token.{Spelled}
use Rattle.proto_tokens.specs.declared.token.Tokens.{Tokens}

abbrev pub offset_of : Option Place → Option ℕ
offset_of end = option_map (λ p. p.offset) end

-- the end of the token that begins at a place, if one does
abbrev pub end_among : List Spelled → ℕ → Option ℕ
end_among ts place = option_map (λ t. t.end) (find (λ t. t.start == place) ts)

-- the same of a text's tokens; a text with a fault of its tokens has none
pub record IsTokenEnd (limit : ℕ) (text : List ℕ) (place : ℕ) (end : Option ℕ) : Type 0 where
  pub spelled : (ts : List Spelled) → IsTokenList limit text ts → end ≡ end_among ts place
  pub none : (at : ℕ) (kind : Kind) → IsFault limit text at kind → end ≡ None

-- the tokens of a text, and none where it has a fault of its tokens
pub record AreTokens (limit : ℕ) (text : List ℕ) (found : Option Tokens) : Type 0 where
  pub spelled : IfSome found (λ tokens. IsTokenList limit text (tokens_of tokens))
  pub every : (ts : List Spelled) → IsTokenList limit text ts → option_map tokens_of found ≡ Some ts
  pub none : (at : ℕ) (kind : Kind) → IsFault limit text at kind → found ≡ None
