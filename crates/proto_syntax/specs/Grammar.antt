-- Grammars as data, their trees, the tokens that a tree flattens to, and the fronts of a rule.
use Rattle.std.specs.Prelude.{◌≡◌, ℕ, Bool, true, false, ◌||◌, not, List, [], ◌∷◌, ◌++◌, bytes_eq, nat_eq}
use Rattle.proto_tokens.specs.Token.{Lexeme, identifier, number, string_literal, punctuation, Spelled}

-- A class of tokens: an identifier that is one of these, an identifier that is none of these, a number, a string
-- literal, a symbol.
pub data Class : Type 0 where
  OneOf : List (List ℕ) → Class
  NoneOf : List (List ℕ) → Class
  AnyNumber : Class
  AnyString : Class
  Symbol : ℕ → Class

abbrev pub among : List ℕ → List (List ℕ) → Bool
among w [] = false
among w (v ∷ vs) = bytes_eq w v || among w vs

-- a token of that class
abbrev pub fits : Class → Lexeme → Bool
fits (OneOf ws) (identifier w) = among w ws
fits (NoneOf ws) (identifier w) = not (among w ws)
fits AnyNumber (number n) = true
fits AnyString (string_literal s) = true
fits (Symbol b) (punctuation c) = nat_eq b c
fits _ _ = false

-- A grammar: one token, nothing, one part and then another, one of two parts, any number of one part, and a rule
-- beyond the limit of depth, which would begin with a token of that class.
infixr 30 ◌⨾◌
infixr 20 ◌∣◌
pub data Grammar : Type 0 where
  One : Class → Grammar
  Nothing : Grammar
  ◌⨾◌ : Grammar → Grammar → Grammar
  ◌∣◌ : Grammar → Grammar → Grammar
  Many : Grammar → Grammar
  Beyond : Class → Grammar

-- [ g ]
abbrev pub Optional : Grammar → Grammar
Optional g = g ∣ Nothing

-- A tree. The items of a repetition are pairs, and behind the last stands Empty.
pub data Tree : Type 0 where
  Leaf : Spelled → Tree
  Empty : Tree
  Pair : Tree → Tree → Tree
  Left : Tree → Tree
  Right : Tree → Tree

-- the tokens of a tree
abbrev pub flatten : Tree → List Spelled
flatten (Leaf t) = t ∷ []
flatten Empty = []
flatten (Pair x y) = flatten x ++ flatten y
flatten (Left x) = flatten x
flatten (Right x) = flatten x

-- The trees of a grammar. A rule beyond the limit has none.
pub data IsTree : Grammar → Tree → Type 0 where
  one : {c : Class} {t : Spelled} → fits c t.lexeme ≡ true → IsTree (One c) (Leaf t)
  nothing : IsTree Nothing Empty
  both : {a b : Grammar} {x y : Tree} → IsTree a x → IsTree b y → IsTree (a ⨾ b) (Pair x y)
  first : {a b : Grammar} {x : Tree} → IsTree a x → IsTree (a ∣ b) (Left x)
  second : {a b : Grammar} {x : Tree} → IsTree b x → IsTree (a ∣ b) (Right x)
  none : {a : Grammar} → IsTree (Many a) Empty
  more : {a : Grammar} {x y : Tree} → IsTree a x → IsTree (Many a) y → IsTree (Many a) (Pair x y)

-- The fronts of a grammar: the lists of tokens with which its trees begin, cut anywhere.
pub data IsFront : Grammar → List Spelled → Type 0 where
  -- the empty list, always
  empty : {g : Grammar} → IsFront g []
  -- of a token, itself
  token : {c : Class} {t : Spelled} → fits c t.lexeme ≡ true → IsFront (One c) (t ∷ [])
  -- of a sequence, a front of its first part, or that part whole and a front of the rest
  within : {a b : Grammar} {ts : List Spelled} → IsFront a ts → IsFront (a ⨾ b) ts
  past : {a b : Grammar} {x : Tree} {us ts : List Spelled} → IsTree a x → IsFront b us → ts ≡ flatten x ++ us
      → IsFront (a ⨾ b) ts
  -- of a choice, a front of one of the parts
  of_first : {a b : Grammar} {ts : List Spelled} → IsFront a ts → IsFront (a ∣ b) ts
  of_second : {a b : Grammar} {ts : List Spelled} → IsFront b ts → IsFront (a ∣ b) ts
  -- of a repetition, whole items and a front of one
  items : {a : Grammar} {x : Tree} {us ts : List Spelled} → IsTree (Many a) x → IsFront a us → ts ≡ flatten x ++ us
      → IsFront (Many a) ts
