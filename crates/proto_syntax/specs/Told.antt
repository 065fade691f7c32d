-- What an error of `parse` tells.
use Rattle.std.specs.Prelude.{◌≡◌, ℕ, ◌≤◌, List, slice_get, All}
use Rattle.std.specs.Option.{option_map, unwrap_or}
use Rattle.proto_tokens.specs.ProgramTokens.{tokens_of}
use Rattle.proto_tokens.specs.Token.{Spelled}
use Rattle.proto_tokens.specs.declared.token.Tokens.{Tokens}
use Rattle.proto_syntax.specs.declared.error.ParseError.{ParseError}
use Rattle.proto_syntax.specs.declared.error.ParseError.TheVariants.{NoMemory, At}
use Rattle.proto_syntax.specs.Fault.{IsFaultAt, IsKindOf}

-- where token k begins, or where the text ends if there is none
abbrev pub place_of_token : List Spelled → ℕ → ℕ → ℕ
place_of_token ts k end = unwrap_or (option_map (λ t. t.start) (slice_get ts k)) end

-- the error tells the fault of these tokens, unless memory ran out
abbrev pub IsFaultOf : ℕ → Tokens → ParseError → Type 0
IsFaultOf limit tokens NoMemory = Unit {0}
IsFaultOf limit tokens (At place kind) =
    (k : ℕ) × IsFaultAt limit (tokens_of tokens) k × IsKindOf (tokens_of tokens) k kind
    × (place.offset ≡ place_of_token (tokens_of tokens) k tokens.end.offset)

-- no token begins behind n, nor does the text end there
pub record LieWithin (n : ℕ) (tokens : Tokens) : Type 0 where
  pub begin : All (λ t. t.span.start.offset ≤ n) tokens.items.items
  pub end : tokens.end.offset ≤ n

-- the error is for want of memory, or names a place within n bytes
abbrev pub IsPlacedWithin : ℕ → ParseError → Type 0
IsPlacedWithin n NoMemory = Unit {0}
IsPlacedWithin n (At place kind) = place.offset ≤ n
