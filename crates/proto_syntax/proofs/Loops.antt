-- The turns of a loop that reads a repetition, and what the fault of an item is to the whole.
use Rattle.proto_syntax.proofs.Common.{◌≡◌, ℕ, zero, suc, ◌≤◌, ◌<◌, Bool, true, false, List, [], ◌∷◌, ◌++◌, length, refl, ap, arith, ◌==◌, length-map, Spelled, Token, Grammar, One, Nothing, ◌⨾◌, ◌∣◌, Many, Beyond, Tree, Empty, Pair, flatten, symbol, Outcome, Read, Stops, after, mapped, ended, read_many, read, begins, next_fits, can_be_empty, goes_on, decides, spellings, Fails, before}
use Rattle.proto_syntax.specs.declared.parser.stop.Stop.{Stop}
use Rattle.proto_syntax.specs.declared.parser.stop.Stop.TheVariants as stop
use Rattle.proto_syntax.proofs.Begins.{apart_other, tree_starts, next_append}
use Rattle.proto_syntax.proofs.Reach.{not_empty_longer, read_found}

-- a part that is not empty takes a token
pub shorter : (g : Grammar) (x : Tree) (ts us : List Spelled) → can_be_empty g ≡ false → read g ts ≡ Read x us
    → length us < length ts
shorter g x ts us h e = let s = read_found g ts x us e in
    let k = not_empty_longer g (flatten x) us (tree_starts s.0) h in rw s.1 k

-- how far the counter goes doesn't matter, if it goes far enough
same_turn : (g : Grammar) (m n : ℕ) (ts : List Spelled) → can_be_empty g ≡ false
    → ((us : List Spelled) → length us < length ts
    → read_many (read g) (begins g) m us ≡ read_many (read g) (begins g) n us)
    → (o : Outcome) → read g ts ≡ o
    → read_many (read g) (begins g) (suc m) ts ≡ read_many (read g) (begins g) (suc n) ts
same_turn g m n ts h k (Read x us) e = grind (arith, shorter g x ts us h e, k us)
same_turn g m n ts h k (Stops d us) e = grind arith

same_many : (g : Grammar) → can_be_empty g ≡ false → (m n : ℕ) (ts : List Spelled) → length ts ≤ m → length ts ≤ n
    → read_many (read g) (begins g) m ts ≡ read_many (read g) (begins g) n ts
same_many g h zero zero ts i j = refl
same_many g h zero (suc n) ts i j = grind arith
same_many g h (suc m) zero ts i j = grind arith
same_many g h (suc m) (suc n) ts i j =
    same_turn g m n ts h (λ us l. same_many g h m n us (omega arith) (omega arith)) (read g ts) refl

pub many_more : (g : Grammar) (x : Tree) (ts us : List Spelled) → can_be_empty g ≡ false
    → next_fits (begins g) ts ≡ true → read g ts ≡ Read x us
    → read (Many g) ts ≡ mapped (Pair x) (read (Many g) us)
many_more g x [] us h e i = cc
many_more g x (t ∷ ts) us h e i =
    grind (arith, shorter g x (t ∷ ts) us h i, same_many g h (length ts) (length us) us)

pub many_stops : (g : Grammar) (d : Bool) (ts us : List Spelled) → next_fits (begins g) ts ≡ true
    → read g ts ≡ Stops d us → read (Many g) ts ≡ Stops d us
many_stops g d ts us e i = grind arith

pub many_ends : (g : Grammar) (ts : List Spelled) → next_fits (begins g) ts ≡ false → read (Many g) ts ≡ Read Empty ts
many_ends g ts e = grind arith

before_push : {A : Type 0} → (f : A → Tree) (xs : List A) (x : A) (t : Tree)
    → before f (xs ++ (x ∷ [])) t ≡ before f xs (Pair (f x) t)
before_push f [] x t = refl
before_push f (y ∷ xs) x t = ap (Pair (f y)) (before_push f xs x t)

mapped_push : {A : Type 0} → (f : A → Tree) (xs : List A) (x : A) (o : Outcome)
    → mapped (before f (xs ++ (x ∷ []))) o ≡ mapped (before f xs) (mapped (Pair (f x)) o)
mapped_push f xs x o = grind (arith, before_push)

-- What the items so far and the rest of the tokens give together.
abbrev pub Rows : {A : Type 0} → (A → Tree) → Grammar → List A → List Spelled → Outcome
Rows f g xs ts = mapped (before f xs) (read (Many g) ts)

pub rows_more : {A : Type 0} → (f : A → Tree) (g : Grammar) (xs : List A) (x : A) (ts us : List Spelled) (o : Outcome)
    → can_be_empty g ≡ false
    → next_fits (begins g) ts ≡ true → read g ts ≡ Read (f x) us → Rows f g xs ts ≡ o → Rows f g (xs ++ (x ∷ [])) us ≡ o
rows_more f g xs x ts us o h e i k = cc (mapped_push f xs x (read (Many g) us), many_more g (f x) ts us h e i)

pub rows_none : {A : Type 0} → (f : A → Tree) (g : Grammar) (ts : List Spelled) → Rows f g [] ts ≡ read (Many g) ts
rows_none f g ts = grind arith

-- the same of the tokens of the code
pub fewer_left : (g : Grammar) (x : Tree) (ts us : List Token) → can_be_empty g ≡ false
    → read g (spellings ts) ≡ Read x (spellings us) → length us < length ts
fewer_left g x ts us h e = grind (arith, length-map {A = Token} {B = Spelled}, shorter g x)

-- A token with which a part does not begin is left: by a part that can be empty, with nothing read, and by another as
-- its fault.
abbrev Passes : Bool → List Spelled → Outcome → Type 0
Passes b ts (Read x us) = (b ≡ true) × (us ≡ ts)
Passes b ts (Stops d us) = (b ≡ false) × (d ≡ false) × (us ≡ ts)

passes : (g : Grammar) → decides g ≡ true → (ts : List Spelled) → next_fits (begins g) ts ≡ false
    → Passes (can_be_empty g) ts (read g ts)
passes (One c) d ts h = grind arith
passes Nothing d ts h = (refl, refl)
passes (a ⨾ b) d ts h =
    grind (arith, next_append, λ (e : decides a ≡ true). passes a e ts, λ (e : decides b ≡ true). passes b e ts)
passes (a ∣ b) d ts h = grind (arith, next_append, λ (e : decides b ≡ true). passes b e ts)
passes (Many a) d ts h = grind (arith, many_ends a ts h)
passes (Beyond c) d ts h = grind arith

-- One token of look-ahead that decides a block tells an item from what closes it.
pub items_closed : (g c : Grammar) → decides (Many g ⨾ c) ≡ true → (ts : List Spelled) → next_fits (begins c) ts ≡ true
    → next_fits (begins g) ts ≡ false
items_closed g c d [] e = refl
items_closed g c d (t ∷ ts) e = grind (
  arith,
  next_append (begins g) (goes_on g) (t ∷ ts),
  apart_other (begins g ++ goes_on g) (begins c) t.lexeme,
)

-- items, and behind them a sign that closes them
abbrev pub closed : Grammar → Outcome → Outcome
closed c o = after o (λ x us. mapped (Pair x) (read c us))

pub closes_none : {A : Type 0} → (f : A → Tree) (g c : Grammar) (ts : List Spelled)
    → closed c (Rows f g [] ts) ≡ read (Many g ⨾ c) ts
closes_none f g c ts = grind arith

pub ended_mapped : (f : Tree → Tree) (o : Outcome) → ended (mapped f o) ≡ mapped f (ended o)
ended_mapped f o = grind arith

pub ends_none : {A : Type 0} → (f : A → Tree) (g : Grammar) (ts : List Spelled)
    → ended (Rows f g [] ts) ≡ ended (read (Many g) ts)
ends_none f g ts = grind arith

-- Some items are read, of which a whole is made with those that follow.
pub record Turn {A : Type 0} (f : A → Tree) (g : Grammar) (whole : Outcome → Outcome) (xs : List A) (ts : List Spelled)
    (o : Outcome) : Type 0 where
  pub decided : decides g ≡ true
  pub has_tokens : can_be_empty g ≡ false
  pub so_far : whole (Rows f g xs ts) ≡ o

pub turn_first : {A : Type 0} (f : A → Tree) (g c : Grammar) (xs : List A) (ts : List Spelled)
    → decides (Many g ⨾ c) ≡ true → xs ≡ [] → Turn f g (closed c) xs ts (read (Many g ⨾ c) ts)
turn_first f g c xs ts d e = grind (arith, closes_none)

module _ {A : Type 0} {f : A → Tree} {g : Grammar} {whole : Outcome → Outcome} {xs : List A} {ts : List Spelled}
    {o : Outcome} (t : Turn f g whole xs ts o) where
  pub turn_more : (x : A) (us : List Spelled) → read g ts ≡ Read (f x) us → Turn f g whole (xs ++ (x ∷ [])) us o
  turn_more x us i =
      let b : next_fits (begins g) ts ≡ true = grind (arith, passes g t.decided ts) in
      record {
        decided = t.decided;
        has_tokens = t.has_tokens;
        so_far = cc (mapped_push f xs x (read (Many g) us), many_more g (f x) ts us t.has_tokens b i, t.so_far);
      }

  -- the fault of an item
  turn_stops : (d : Bool) (us : List Spelled) → ((b : Bool) (vs : List Spelled) → whole (Stops b vs) ≡ Stops b vs)
      → whole (Read (before f xs Empty) ts) ≡ Stops false ts → read g ts ≡ Stops d us → o ≡ Stops d us
  turn_stops d us w e i = grind (arith, many_stops g d ts us, many_ends g ts, passes g t.decided ts, w d us)

  pub turn_fails : (rest : List Token) (e : Stop) → ((b : Bool) (vs : List Spelled) → whole (Stops b vs) ≡ Stops b vs)
      → whole (Read (before f xs Empty) ts) ≡ Stops false ts → Fails e rest (read g ts) → Fails e rest o
  turn_fails rest stop.NoMemory w e i = tt
  turn_fails rest stop.Unexpected w e i = turn_stops false (spellings rest) w e i
  turn_fails rest stop.TooDeep w e i = turn_stops true (spellings rest) w e i

pub closes_fails : {A : Type 0} {f : A → Tree} {g : Grammar} {xs : List A} {ts : List Spelled} {o : Outcome}
    → Turn f g (closed (symbol "}")) xs ts o → next_fits (begins (symbol "}")) ts ≡ false → (rest : List Token)
    (e : Stop) → Fails e rest (read g ts) → Fails e rest o
closes_fails t n rest e i = turn_fails t rest e (λ b vs. refl) (grind arith) i

pub closes_end : {A : Type 0} {f : A → Tree} {g : Grammar} {xs : List A} {ts us : List Spelled} {o : Outcome}
    (c : Grammar) (y : Tree) → decides (Many g ⨾ c) ≡ true → Turn f g (closed c) xs ts o
    → next_fits (begins c) ts ≡ true → read c ts ≡ Read y us → o ≡ Read (Pair (before f xs Empty) y) us
closes_end {g = g} {ts = ts} c y d t e i = cc (many_ends g ts (items_closed g c d ts e), t.so_far)

pub not_ended : (x : Tree) (ts : List Token) → (length ts == 0) ≡ false
    → ended (Read x (spellings ts)) ≡ Stops false (spellings ts)
not_ended x [] h = cc
not_ended x (t ∷ ts) h = refl
