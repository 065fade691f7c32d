-- Reading by one token of look-ahead: a device of the proofs, which no public contract names.
use Rattle.std.specs.Prelude.{ℕ, zero, suc, Bool, true, false, cond, ◌&&◌, ◌||◌, not, List, [], ◌∷◌, ◌++◌, nat_eq, length}
use Rattle.proto_tokens.specs.Token.{Lexeme, Spelled}
use Rattle.proto_syntax.specs.Grammar.{Class, OneOf, NoneOf, AnyNumber, AnyString, Symbol, among, fits, Grammar, One, Nothing, ◌⨾◌, ◌∣◌, Many, Beyond, Tree, Leaf, Empty, Pair, Left, Right}

abbrev pub can_be_empty : Grammar → Bool
can_be_empty (One c) = false
can_be_empty Nothing = true
can_be_empty (a ⨾ b) = can_be_empty a && can_be_empty b
can_be_empty (a ∣ b) = can_be_empty a || can_be_empty b
can_be_empty (Many a) = true
can_be_empty (Beyond c) = false

-- the classes of the tokens with which a rule begins
abbrev pub begins : Grammar → List Class
begins (One c) = c ∷ []
begins Nothing = []
begins (a ⨾ b) = begins a ++ cond (can_be_empty a) (begins b) []
begins (a ∣ b) = begins a ++ begins b
begins (Many a) = begins a
begins (Beyond c) = c ∷ []

abbrev pub fits_any : List Class → Lexeme → Bool
fits_any [] w = false
fits_any (c ∷ cs) w = fits c w || fits_any cs w

abbrev pub next_fits : List Class → List Spelled → Bool
next_fits cs [] = false
next_fits cs (t ∷ ts) = fits_any cs t.lexeme

-- What reading gives: a tree and the tokens after it, or the tokens from the fault on, and whether it is the depth.
pub data Outcome : Type 0 where
  Read : Tree → List Spelled → Outcome
  Stops : Bool → List Spelled → Outcome

abbrev pub after : Outcome → (Tree → List Spelled → Outcome) → Outcome
after (Read x ts) f = f x ts
after (Stops d ts) f = Stops d ts

abbrev pub mapped : (Tree → Tree) → Outcome → Outcome
mapped f (Read x ts) = Read (f x) ts
mapped f (Stops d ts) = Stops d ts

abbrev pub read_one : Class → List Spelled → Outcome
read_one c [] = Stops false []
read_one c (t ∷ ts) = cond (fits c t.lexeme) (Read (Leaf t) ts) (Stops false (t ∷ ts))

abbrev pub read_beyond : Class → List Spelled → Outcome
read_beyond c [] = Stops false []
read_beyond c (t ∷ ts) = Stops (fits c t.lexeme) (t ∷ ts)

abbrev pub read_many : (List Spelled → Outcome) → List Class → ℕ → List Spelled → Outcome
read_many step cs zero ts = Read Empty ts
read_many step cs (suc n) ts =
    cond (next_fits cs ts) (after (step ts) (λ x us. mapped (Pair x) (read_many step cs n us))) (Read Empty ts)

abbrev pub read : Grammar → List Spelled → Outcome
read (One c) ts = read_one c ts
read Nothing ts = Read Empty ts
read (a ⨾ b) ts = after (read a ts) (λ x us. mapped (Pair x) (read b us))
read (a ∣ b) ts = cond (next_fits (begins a) ts) (mapped Left (read a ts)) (mapped Right (read b ts))
read (Many a) ts = read_many (read a) (begins a) (length ts) ts
read (Beyond c) ts = read_beyond c ts

-- the classes of the tokens with which a rule, once whole, could go on
abbrev pub goes_on : Grammar → List Class
goes_on (One c) = []
goes_on Nothing = []
goes_on (a ⨾ b) = goes_on b ++ cond (can_be_empty b) (goes_on a) []
goes_on (a ∣ b) = (goes_on a ++ goes_on b) ++ cond (can_be_empty b) (begins a) []
goes_on (Many a) = begins a ++ goes_on a
goes_on (Beyond c) = []

-- no token fits both
abbrev pub none_among : List (List ℕ) → List (List ℕ) → Bool
none_among [] vs = true
none_among (w ∷ ws) vs = not (among w vs) && none_among ws vs

abbrev pub all_among : List (List ℕ) → List (List ℕ) → Bool
all_among [] vs = true
all_among (w ∷ ws) vs = among w vs && all_among ws vs

abbrev pub apart : Class → Class → Bool
apart (OneOf ws) (OneOf vs) = none_among ws vs
apart (OneOf ws) (NoneOf vs) = all_among ws vs
apart (NoneOf vs) (OneOf ws) = all_among ws vs
apart (NoneOf vs) (NoneOf ws) = false
apart AnyNumber AnyNumber = false
apart AnyString AnyString = false
apart (Symbol b) (Symbol c) = not (nat_eq b c)
apart _ _ = true

abbrev pub apart_from_all : Class → List Class → Bool
apart_from_all c [] = true
apart_from_all c (d ∷ ds) = apart c d && apart_from_all c ds

abbrev pub all_apart : List Class → List Class → Bool
all_apart [] ds = true
all_apart (c ∷ cs) ds = apart_from_all c ds && all_apart cs ds

-- One token of look-ahead decides each choice and each end.
abbrev pub decides : Grammar → Bool
decides (One c) = true
decides Nothing = true
decides (a ⨾ b) = decides a && (decides b && all_apart (goes_on a) (begins b))
decides (a ∣ b) = decides a && (decides b && (not (can_be_empty a) && all_apart (begins a) (begins b)))
decides (Many a) = decides a && (not (can_be_empty a) && all_apart (goes_on a) (begins a))
decides (Beyond c) = true

-- reading of all the tokens
abbrev pub ended : Outcome → Outcome
ended (Read x []) = Read x []
ended (Read x (t ∷ ts)) = Stops false (t ∷ ts)
ended (Stops d ts) = Stops d ts
