-- What the tokens of a source say can be written and read: identifiers are names, numbers are below 2 ^ 64, and strings
-- are UTF-8. There are no more tokens than bytes.
use Rattle.std.proofs.Common.{◌≢◌, ◌∙◌, sym, ap, subst, ℕ, ◌+◌, ◌<◌, ◌≤◌, ◌^◌, List, [], ◌∷◌, length, map, take, drop, flat_map, Option, None, Some, IsTrue, IsUtf8, arith}
use Rattle.std.proofs.lemmas.Bool.{false≢true}
use Rattle.std.specs.List.{AllByRecursion}
use Rattle.proto_base.specs.Limits.{limit_of}
use Rattle.proto_base.specs.declared.limits.Limit.TheVariants as limit
use Rattle.proto_base.specs.declared.limits.Limits.{Limits}
use Rattle.proto_file.proofs.PlacesWithin.{each_given, each_map, split}
use Rattle.proto_file.specs.Local.{IsFile}
use Rattle.proto_syntax.specs.Grammar.{Tree, Leaf, Empty, Pair, Left, Right, flatten}
use Rattle.proto_syntax.specs.Trees.{file_tree, row}
use Rattle.proto_tokens.proofs.CutLemmas.{piece_nonempty}
use Rattle.proto_tokens.specs.Bytes.{begins, is_letter}
use Rattle.proto_tokens.specs.Piece.{IsPiece}
use Rattle.proto_tokens.specs.Spelling.{IsCutIntoPieces, Piece, mark_len, tokens_from, with_token}
use Rattle.proto_tokens.specs.Token.{Lexeme, Spelled, identifier, number, string_literal, punctuation}
use Rattle.proto_tree.specs.declared.file.FileTree.{FileTree}
use Rattle.set_round_trip.specs.Fits.{IsName}
use Rattle.set_round_trip.proofs.Texts.{words_text}

-- ---- tokens

abbrev LexemeFits : Lexeme → Type 0
LexemeFits (identifier name) = IsName name
LexemeFits (number value) = value < 2 ^ 64
LexemeFits (string_literal value) = IsUtf8 value
LexemeFits (punctuation b) = Unit {0}

abbrev TokenFits : Spelled → Type 0
TokenFits t = LexemeFits t.lexeme

letter_some : (bs : List ℕ) → IsTrue (begins is_letter bs) → bs ≢ []
letter_some [] letter empty = false≢true letter
letter_some (b ∷ bs) letter empty = cc

piece_fits : (text : List ℕ) (n : ℕ) (w : Lexeme) → IsPiece text n (Some w) → LexemeFits w
piece_fits text n (identifier name) ((letter, words), same) =
    subst IsName (sym same) (record { some = letter_some (take n text) letter; utf8 = words_text (take n text) words })
piece_fits text n (number value) is = is.1
piece_fits text n (string_literal value) (quote, after, parts, end, opened, closed, long, says, utf8) = utf8
piece_fits text n (punctuation b) is = tt

token_fits : (o : Option Lexeme) (text : List ℕ) (n start end : ℕ) (ts : List Spelled) → IsPiece text n o
    → AllByRecursion TokenFits ts → AllByRecursion TokenFits (with_token o start end ts)
token_fits None text n start end ts piece all = all
token_fits (Some w) text n start end ts piece all = (piece_fits text n w piece, all)

tokens_fit : (s : List ℕ) (from : ℕ) (ps : List Piece) (to : ℕ) → IsCutIntoPieces s from ps to
    → AllByRecursion TokenFits (tokens_from from ps)
tokens_fit s from [] to cut = tt
tokens_fit s from (p ∷ ps) to cut =
    token_fits p.is (drop from s) p.len from (from + p.len) (tokens_from (from + p.len) ps) cut.0.piece_is
    (tokens_fit s (from + p.len) ps to cut.1)

one_more : (o : Option Lexeme) (start end : ℕ) (ts : List Spelled) → length (with_token o start end ts) ≤ length ts + 1
one_more None start end ts = omega arith
one_more (Some w) start end ts = omega arith

tokens_few : (s : List ℕ) (from : ℕ) (ps : List Piece) (to : ℕ) → IsCutIntoPieces s from ps to
    → from + length (tokens_from from ps) ≤ to
tokens_few s from [] to cut = omega (arith, cut)
tokens_few s from (p ∷ ps) to cut =
    let next = from + p.len in
    omega (
      arith,
      piece_nonempty (drop from s) p.len p.is cut.0,
      one_more p.is from next (tokens_from next ps),
      tokens_few s next ps to cut.1,
    )

-- ---- trees

-- each token of a tree fits, part by part
abbrev pub TreeFits : Tree → Type 0
TreeFits (Leaf t) = TokenFits t
TreeFits Empty = Unit {0}
TreeFits (Pair x y) = TreeFits x × TreeFits y
TreeFits (Left x) = TreeFits x
TreeFits (Right x) = TreeFits x

tree_fits : (t : Tree) → AllByRecursion TokenFits (flatten t) → TreeFits t
tree_fits (Leaf t) all = all.0
tree_fits Empty all = tt
tree_fits (Pair x y) all =
    let (left, right) = split TokenFits (flatten x) (flatten y) all in (tree_fits x left, tree_fits y right)
tree_fits (Left x) all = tree_fits x all
tree_fits (Right x) all = tree_fits x all

-- so do the trees of some elements
abbrev pub EachFits : {A : Type 0} → (A → Tree) → List A → Type 0
EachFits f xs = AllByRecursion (λ x. TreeFits (f x)) xs

pub listed : {A : Type 0} (f : A → Tree) (xs : List A) → TreeFits (row f xs) → EachFits f xs
listed f [] all = tt
listed f (x ∷ xs) all = (all.0, listed f xs all.1)

-- what the parts of elements are lowered to
pub each_made : {A B C : Type 0} (P : C → Type 0) (lower : B → C) (f : A → Tree) (part : A → List B) (xs : List A)
    → ((x : A) → TreeFits (f x) → AllByRecursion (λ y. P (lower y)) (part x)) → EachFits f xs
    → AllByRecursion P (map lower (flat_map part xs))
each_made P lower f part xs made all = each_map P lower (flat_map part xs)
    (each_given (λ x. TreeFits (f x)) (λ y. P (lower y)) part xs made all)

-- ---- sources

pub source_fits : (limits : Limits) (text : List ℕ) (file : FileTree) → IsFile limits text file
    → TreeFits (file_tree file)
source_fits limits text file (ts, tokens, tree) =
    let (ps, cut, same) = tokens.spelled_so in
    tree_fits (file_tree file) (subst (AllByRecursion TokenFits) (same ∙ sym tree.tokens)
    (tokens_fit text (mark_len text) ps (length text) cut))

pub source_few : (limits : Limits) (text : List ℕ) (file : FileTree) → IsFile limits text file
    → length (flatten (file_tree file)) ≤ limit_of limits limit.FileBytes
source_few limits text file (ts, tokens, tree) =
    let (ps, cut, same) = tokens.spelled_so in
    let few : length (tokens_from (mark_len text) ps) ≤ length text =
    omega (arith, tokens_few text (mark_len text) ps (length text) cut) in
    omega (arith, few, ap length (same ∙ sym tree.tokens), tokens.short)
