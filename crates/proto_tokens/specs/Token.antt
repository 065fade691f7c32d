-- What a token is.
use Rattle.std.specs.Prelude.{ℕ, List}

-- an identifier by its bytes, a number by its value, a string literal by the bytes of its value, a punctuation by its
-- byte
pub data Lexeme : Type 0 where
  identifier : List ℕ → Lexeme
  number : ℕ → Lexeme
  string_literal : List ℕ → Lexeme
  punctuation : ℕ → Lexeme

-- a token, and the bytes of the text that it is: those from start up to end
pub record Spelled : Type 0 where
  pub start : ℕ
  pub end : ℕ
  pub lexeme : Lexeme
