-- The tokens of a text begin in their order.
use Rattle.std.proofs.Common.{◌≡◌, subst, ℕ, ◌+◌, ◌≤◌, List, [], ◌∷◌, Option, Some, None, arith, ◌<◌, get_or, length, map}
use Rattle.std.specs.List.Sorted.{IsNonDecreasingBy}
use Rattle.std.proofs.lemmas.List.{get_or-map, length-map}
use Rattle.proto_tokens.specs.ProgramTokens.{spelled}
use Rattle.proto_tokens.specs.declared.token.Token.{Token}
use Rattle.proto_tokens.specs.Spelling.{IsTokenList, Piece, tokens_from, with_token}
use Rattle.proto_tokens.specs.Token.{Lexeme, Spelled}
use Rattle.fault_report.proofs.Rising.{Rises, rises_from, rises_more, rises_none}

abbrev pub start_of : Spelled → ℕ
start_of t = t.start

with_token_rises : (is : Option Lexeme) (start end : ℕ) (ts : List Spelled) → start ≤ end → Rises start_of end ts
    → Rises start_of start (with_token is start end ts)
with_token_rises None start end ts le rises = rises_from start_of start end ts le rises
with_token_rises (Some lexeme) start end ts le rises =
    rises_more start_of start _ ts (omega arith) (rises_from start_of start end ts le rises)

tokens_rise : (from : ℕ) (ps : List Piece) → Rises start_of from (tokens_from from ps)
tokens_rise from [] = rises_none start_of from
tokens_rise from (p ∷ ps) = with_token_rises p.is from (from + p.len) _ (omega arith) (tokens_rise (from + p.len) ps)

pub list_rises : (limit : ℕ) (text : List ℕ) (ts : List Spelled) → IsTokenList limit text ts → Rises start_of 0 ts
list_rises limit text ts is = let (ps, cut, made) = is.spelled_so in
    subst (λ (us : List Spelled). Rises start_of 0 us) made (rises_from start_of 0 _ _ (omega arith) (tokens_rise _ ps))

-- and so do those of the program
pub program_rises : (items : List Token) → Rises start_of 0 (map spelled items)
    → IsNonDecreasingBy (λ (t : Token). t.span.start.offset) items
program_rises items rises i j d le h =
    let before : i < length items = omega arith in
    let long : length (map spelled items) ≡ length items = length-map items spelled in
    let sorted : (get_or (map spelled items) i (spelled d)).start ≤ (get_or (map spelled items) j (spelled d)).start =
    rises.order i j (spelled d) le (omega arith) in
    rw (get_or-map spelled items i d (spelled d) before, get_or-map spelled items j d (spelled d) h) at sorted
