-- Tokens have one answer: their tree, or their fault with its kind, which stands where a token begins or the text ends.
use Rattle.proto_syntax.proofs.Common.{All, ◌≡◌, ℕ, List, refl, ap, arith, Result, Ok, Err, ◌≤◌, MatchResult, IsErrAnd, IfErr, slice_get_within, slice_get_cases, Spelled, tokens_of, Token, file_tree, IsTreeOf, IsFaultAt, token_before, kind_of, IsKindOf, at_end, too_deep, other, spellings, TellsFault}
use Rattle.proto_tokens.specs.declared.token.Tokens.{Tokens}
use Rattle.proto_base.specs.declared.kind.Kind.{Kind}
use Rattle.proto_syntax.specs.declared.error.ParseError.{ParseError}
use Rattle.proto_syntax.specs.declared.error.ParseError.TheVariants.{NoMemory, At}
use Rattle.proto_tree.specs.declared.file.FileTree.{FileTree}
use Rattle.proto_syntax.specs.Told.{IsFaultOf, IsPlacedWithin, LieWithin, place_of_token}
use Rattle.proto_syntax.proofs.Steps.{spelling_at}
use Rattle.proto_syntax.proofs.Prefix.{one_fault}

pub one_kind : (ts : List Spelled) (k : ℕ) (a b : Kind) → IsKindOf ts k a → IsKindOf ts k b → a ≡ b
one_kind ts k _ _ (at_end e) (at_end f) = refl
one_kind ts k _ _ (at_end e) (too_deep l g) = absurd (omega arith)
one_kind ts k _ _ (at_end e) (other {t = t} f g) = grind (arith, slice_get_within)
one_kind ts k _ _ (too_deep l g) (at_end e) = absurd (omega arith)
one_kind ts k _ _ (too_deep l g) (too_deep m h) = refl
one_kind ts k _ _ (too_deep l g) (other e h) = absurd (h g)
one_kind ts k _ _ (other {t = t} f g) (at_end e) = grind (arith, slice_get_within)
one_kind ts k _ _ (other f g) (too_deep l h) = absurd (g h)
one_kind ts k _ _ (other {t = t} e g) (other {t = u} f h) = let p : t ≡ u = cc in ap (kind_of (token_before ts k)) p

pub of_every_fault : (limit : ℕ) (tokens : Tokens) (result : Result FileTree ParseError)
    → MatchResult result (λ file. IsTreeOf limit (tokens_of tokens) (file_tree file)) (IsFaultOf limit tokens)
    → (k : ℕ) (kind : Kind) → IsFaultAt limit (tokens_of tokens) k → IsKindOf (tokens_of tokens) k kind
    → IsErrAnd result (TellsFault tokens k kind)
of_every_fault limit tokens (Ok file) right k kind fault is_kind = fault.no_file (file_tree file) right
of_every_fault limit tokens (Err (At place there)) (j, fault', is_kind', at) k kind fault is_kind =
    grind (arith, one_fault, one_kind)
of_every_fault limit tokens (Err NoMemory) right k kind fault is_kind = tt

start_within : (n end : ℕ) (tokens : List Token) (k : ℕ) → All (λ t. t.span.start.offset ≤ n) tokens → end ≤ n
    → place_of_token (spellings tokens) k end ≤ n
start_within n end tokens k begin last = grind (arith, spelling_at tokens k, slice_get_cases tokens k, begin k)

pub fault_within : (n limit : ℕ) (tokens : Tokens) (result : Result FileTree ParseError) → LieWithin n tokens
    → MatchResult result (λ file. IsTreeOf limit (tokens_of tokens) (file_tree file)) (IsFaultOf limit tokens)
    → IfErr result (IsPlacedWithin n)
fault_within n limit tokens (Ok file) within right = tt
fault_within n limit tokens (Err NoMemory) within right = tt
fault_within n limit tokens (Err (At place kind)) within (k, fault, is_kind, at) =
    rw at (start_within n _ _ k within.begin within.end)
