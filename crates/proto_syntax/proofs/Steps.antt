-- Small steps of methods that read, one lemma each.
use Rattle.proto_syntax.proofs.Common.{arith, ◌≡◌, ℕ, true, List, [], ◌∷◌, Result, MatchResult, slice_get, option_map, slice_get-map, bytes_eq-Decides, Lexeme, identifier, spelled, Token, OneOf, fits, Tree, Outcome, Read, Gives, spellings}
use Rattle.proto_syntax.specs.declared.parser.stop.Stop.{Stop}
use Rattle.proto_syntax.specs.declared.parser.stop.Stop.TheVariants as stop

-- A token that fits a word is that word.
pub fits_word : (w : Lexeme) (text : List ℕ) → fits (OneOf (text ∷ [])) w ≡ true → w ≡ identifier text
fits_word w text h = grind (arith, bytes_eq-Decides)

-- The spellings of tokens, one by one.
pub spelling_at : (ts : List Token) (k : ℕ) → slice_get (spellings ts) k ≡ option_map spelled (slice_get ts k)
spelling_at ts k = slice_get-map spelled ts k

-- What was read is given in a box, unless memory runs out.
pub boxed_gives : {X : Type 0} → (tree : X → Tree) (boxed : Result X Stop) (x : X) (rest : List Token) (o : Outcome)
    → MatchResult boxed (λ y. y ≡ x) (λ e. e ≡ stop.NoMemory) → o ≡ Read (tree x) (spellings rest)
    → Gives tree boxed rest o
boxed_gives tree boxed x rest o m h = grind arith
