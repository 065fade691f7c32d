-- The tokens of the program, as the spelling of a text sees them.
use Rattle.std.specs.Prelude.{List, map}
use Rattle.std.specs.Cow.{cow_str_bytes}
use Rattle.proto_tokens.specs.declared.token.Token.{Token}
use Rattle.proto_tokens.specs.declared.token.Tokens.{Tokens}
use Rattle.proto_tokens.specs.declared.token.TokenKind.{TokenKind}
use Rattle.proto_tokens.specs.declared.token.TokenKind.TheVariants as token
use Rattle.proto_tokens.specs.Token.{Lexeme, Spelled, identifier, number, string_literal, punctuation}

-- what the program's tokens say
abbrev pub lexeme_of : TokenKind → Lexeme
lexeme_of (token.Identifier name) = identifier name.now
lexeme_of (token.Number n) = number n
lexeme_of (token.StringLiteral value) = string_literal (cow_str_bytes value)
lexeme_of (token.Punctuation c) = punctuation c

-- a token of the program, with its span
abbrev pub spelled : Token → Spelled
spelled t = record { start = t.span.start.offset; end = t.span.end.offset; lexeme = lexeme_of t.kind }

-- the tokens of a source in their order
abbrev pub tokens_of : Tokens → List Spelled
tokens_of tokens = map spelled tokens.items.items
