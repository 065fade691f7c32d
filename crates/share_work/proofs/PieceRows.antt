-- Facts on the row of one worker, and on the rows of some workers.
use Rattle.share_work.proofs.Common.{common_steps, ◌≡◌, ℕ, zero, suc, ◌+◌, ◌-◌, ◌*◌, ◌/◌, ◌%◌, ◌<◌, ◌≤◌, ◌⊎◌, min, List, [], ◌∷◌, ◌++◌, length, take, drop, slice_get, Some, Result, IfOk, IsOkAnd, OnOk, length-append, get_or, refl, arith, inl, inr, rules, set, slice_range, length-take-le, take-add, drop_of_length-le, mul-le-mul_right, zero-mul, slice_get_within, cases_lt, AddsSome, AddsInRow, SeatGains, SeatHas, SeatsGain, SeatsHave, GivesItems, TakesAll, GivesUpTo, GivesPiece, GivesRow, GivesRows}
use Rattle.std.proofs.Math.Seq.{take-nil}
use Rattle.share_work.proofs.Giving.{gives_append}

-- what is found in two lists together is found in one of them
pub found_in : {V : Type 0} (xs ys : List V) (k : ℕ) (v : V) → slice_get (xs ++ ys) k ≡ Some v
    → (slice_get xs k ≡ Some v) ⊎ ((j : ℕ) × (k ≡ length xs + j) × (slice_get ys j ≡ Some v))
found_in [] ys k v e = inr (k, omega arith, e)
found_in (x ∷ xs) ys zero v e = inl e
found_in (x ∷ xs) ys (suc k) v e = grind (arith, found_in xs ys k v)

module _ {V : Type 0} where
  -- a fact on each element holds after a push of one that meets it
  pub each_push : (P : ℕ → V → Type 0) (xs : List V) (y : V)
      → ((k : ℕ) (v : V) → slice_get xs k ≡ Some v → P k v) → P (length xs) y
      → (k : ℕ) (v : V) → slice_get (xs ++ y ∷ []) k ≡ Some v → P k v
  each_push P xs y all last k v e = grind (arith, common_steps, found_in xs (y ∷ []) k v e, all k v)

-- the items from a on, c of them as far as there are
pub range_piece : {X : Type 0} (xs : List X) (a c : ℕ)
    → slice_range xs a (a + min c (length xs - a)) ≡ take c (drop a xs)
range_piece xs a c = grind (arith, common_steps)

module _ {T O : Type 0} (gives : ℕ → T → O → Type 0) where
  -- the outs before a piece, and those of the piece
  pub one_piece_more : (cut : ℕ) (items : List T) (p : ℕ) (a b : List O)
      → GivesUpTo gives cut items p a → GivesPiece gives cut items p b → GivesUpTo gives cut items (p + 1) (a ++ b)
  one_piece_more cut items p a b f h =
      let now : List T = take cut (drop (p * cut) items) in let size : ℕ = length (take (p * cut) items) in
      let more : (p + 1) * cut ≡ p * cut + cut = grind arith in
      let here : GivesItems gives (0 + size) now b = elim (cases_lt (p * cut) (length items)) [
        | inl lt ↦ let long = length-take-le (p * cut) items (omega arith) in
            let e : 0 + size ≡ p * cut = omega arith in rw e h
        | inr le ↦ let none : now ≡ [] = rw (drop_of_length-le items le) (take-nil cut) in
            (h.0, λ i t o e x. let bad = rw none at e in absurd (search rules))
      ] in
      rw (more, take-add (p * cut) cut items) (gives_append gives now b 0 (take (p * cut) items) a f here)

module _ {T O V R : Type 0} (gives : ℕ → T → O → Type 0) (outs_of : V → List O) (parts_of : R → List V)
    (workers cut : ℕ) (items : List T) where
  -- the rows of some workers and those of the next ones
  pub rows_joined : (from n up m : ℕ) (low high : List R) → up ≡ from + n
      → GivesRows gives outs_of parts_of workers cut items from n low
      → GivesRows gives outs_of parts_of workers cut items up m high
      → GivesRows gives outs_of parts_of workers cut items from (n + m) (low ++ high)
  rows_joined from n up m low high at a b = record {
    len = let x = a.len in let y = b.len in omega (arith, length-append low high);
    each = λ j r e. elim (found_in low high j r e) [
      | inl h ↦ a.each j r h
      | inr h ↦ let same : from + j ≡ up + h.0 = omega (arith, h.1, a.len) in rw same (b.each h.0 r h.2)
    ];
  }

  -- the first row is moved to the end, without its first piece
  pub rows_turned : (p : ℕ) (r r' : R) (rest : List R) (y : V)
      → GivesRows gives outs_of parts_of workers cut items p workers (r ∷ rest)
      → parts_of r ≡ y ∷ parts_of r' → GivesRows gives outs_of parts_of workers cut items (p + 1) workers
      (rest ++ r' ∷ [])
  rows_turned p r r' rest y h is = record {
    len = let n = h.len in omega (arith, length-append rest (r' ∷ []));
    each = each_push (λ j q. GivesRow gives outs_of workers cut items (p + 1 + j) (parts_of q)) rest r'
        (λ j q here. let same : p + 1 + j ≡ p + suc j = omega arith in rw same (h.each (suc j) q here))
        (let n = h.len in let row = rw is at (h.each 0 r refl) in record {
          pieces = λ k v e. let same : p + 1 + length rest + k * workers ≡ p + 0 + suc k * workers = grind arith in
              rw same (row.pieces (suc k) v e);
          whole = λ k inside. grind (arith, row.whole (suc k));
        });
  }

  pub one_row : (w : ℕ) (r : R) → GivesRow gives outs_of workers cut items w (parts_of r)
      → GivesRows gives outs_of parts_of workers cut items w 1 (r ∷ [])
  one_row w r h = grind arith

  -- one more row, of a worker that has no piece
  pub rows_idle : (from n : ℕ) (rows : List R) (r : R) → parts_of r ≡ [] → length items ≤ (from + n) * cut
      → GivesRows gives outs_of parts_of workers cut items from n rows
      → GivesRows gives outs_of parts_of workers cut items from (n + 1) (rows ++ r ∷ [])
  rows_idle from n rows r none past h =
      let idle : GivesRow gives outs_of workers cut items (from + n) [] =
      grind (arith, mul-le-mul_right, zero-mul) in
      rows_joined from n (from + n) 1 rows (r ∷ []) refl h (one_row (from + n) r (rw none idle))

module _ {T O : Type 0} (gives : ℕ → T → O → Type 0) (cut : ℕ) (items : List T) where
  -- the outs of all pieces are those of all items
  pub gives_all : (p : ℕ) (a : List O) → length items ≤ p * cut → GivesUpTo gives cut items p a
      → GivesItems gives 0 items a
  gives_all p a past f = grind (arith, common_steps)

pub piece_inside : (len c p : ℕ) → 0 < c → p < len / c + min 1 (len % c) → p * c < len
piece_inside len c p some below = grind arith

-- the row of a worker so far, and what its seat holds
module _ {T O V S : Type 0} (gives : ℕ → T → O → Type 0) (outs_of : V → List O) (holds : S → ℕ → ℕ → Type 0)
    (adds : ℕ → T → ℕ → ℕ → Type 0) (workers cut : ℕ) (items : List T) (w : ℕ) (entry : S) where
  pub record IsRow (first : ℕ) (row : List V) (seat : S) : Type 0 where
    pub at : first ≡ (w + length row * workers) * cut
    pub pieces : (k : ℕ) (v : V) → slice_get row k ≡ Some v → GivesPiece gives cut items (w + k * workers) (outs_of v)
    pub kept : (x n : ℕ) → holds entry x n → holds seat x n
    pub within : (x n : ℕ) → holds seat x n → holds entry x n ⊎ AddsInRow adds workers cut items w x n
    pub gained : (x n k : ℕ) → k < length row → AddsSome adds ((w + k * workers) * cut)
        (take cut (drop ((w + k * workers) * cut) items)) x n → holds seat x n

  -- and one more piece
  pub row_more : (first : ℕ) (row : List V) (seat : S) (more : List V) (y : V) (new : S) (part : List T) (W C : ℕ)
      → IsRow first row seat → part ≡ take C (drop first items) → W ≡ workers → C ≡ cut
      → GivesItems gives first part (outs_of y)
      → ((x n : ℕ) → holds seat x n → holds new x n)
      → ((x n : ℕ) → holds new x n → holds seat x n ⊎ AddsSome adds first part x n)
      → ((x n : ℕ) → AddsSome adds first part x n → holds new x n)
      → more ≡ row ++ y ∷ [] → IsRow (first + W * C) more new
  row_more first row seat more y new part W C r is W_is C_is out keeps inner outer more_is = record {
    at = rw (W_is, C_is, more_is, length-append, r.at) (grind arith);
    pieces = rw more_is (each_push (λ k v. GivesPiece gives cut items (w + k * workers) (outs_of v)) row y r.pieces
        (rw (← r.at, ← C_is, ← is) out));
    kept = λ x n h. keeps x n (r.kept x n h);
    within = λ x n h. grind (arith, r.within x n, inner x n h);
    gained = λ x n k below h.
        grind (arith, cases_lt k (length row), keeps x n, length-append, outer x n, r.at, r.gained x n k);
  }

  -- past the end of the items the row is whole
  module _ (first : ℕ) (row : List V) (seat : S) (r : IsRow first row seat) (past : length items ≤ first) where
    row_end : (k : ℕ) → (w + k * workers) * cut < length items → k < length row
    row_end k inside = let at = r.at in grind arith

    pub row_whole : GivesRow gives outs_of workers cut items w row
    row_whole = record { pieces = r.pieces; whole = row_end }

    pub row_has : (x n : ℕ) → AddsInRow adds workers cut items w x n → holds seat x n
    row_has x n h = r.gained x n h.0 (row_end h.0 (grind (arith, common_steps))) h.1

pub OnOk-all : {X E : Type 0} (r : Result X E) (P : Type 0) → P → OnOk r P
OnOk-all r P h = grind arith

module _ {S T : Type 0} (holds : S → ℕ → ℕ → Type 0) (adds : ℕ → T → ℕ → ℕ → Type 0) (workers cut : ℕ)
    (items : List T) where
  pub gains_joined : (from up : ℕ) (low high low' high' : List S) → up ≡ from + length low
      → SeatsGain holds adds workers cut items from low low' → SeatsGain holds adds workers cut items up high high'
      → SeatsGain holds adds workers cut items from (low ++ high) (low' ++ high')
  gains_joined from up low high low' high' at a b = record {
    len = grind (arith, length-append);
    each = λ j s s' e e'. let new = found_in low' high' j s' e' in elim (found_in low high j s e) [
      | inl h ↦ a.each j s s' h (grind (arith, new, slice_get_within low j s h, a.len))
      | inr h ↦ let same : from + j ≡ up + h.0 = omega (arith, h.1) in
          rw same (b.each h.0 s s' h.2 (grind (arith, new, slice_get_within low' j s', a.len, h.1)))
    ];
  }

  pub haves_joined : (from up : ℕ) (low high low' high' : List S) → up ≡ from + length low → length low' ≡ length low
      → SeatsHave holds adds workers cut items from low' → SeatsHave holds adds workers cut items up high'
      → SeatsHave holds adds workers cut items from (low' ++ high')
  haves_joined from up low high low' high' at len a b = record {
    each = λ j s e. elim (found_in low' high' j s e) [
      | inl h ↦ a.each j s h
      | inr h ↦ let same : from + j ≡ up + h.0 = omega (arith, h.1) in rw same (b.each h.0 s h.2)
    ];
  }

  -- the same of a list's one seat, read with any default
  pub only_gains : (w : ℕ) (seats : List S) (d s' : S) → length seats ≡ 1
      → SeatGains holds adds workers cut items w (get_or seats 0 d) s'
      → SeatsGain holds adds workers cut items w seats (set seats 0 s')
  only_gains w seats d s' e h = grind (arith, common_steps)

  pub one_has : (w : ℕ) (s' : S) → SeatHas holds adds workers cut items w s'
      → SeatsHave holds adds workers cut items w (s' ∷ [])
  one_has w s' h = grind arith

  -- seats that stay as they are gain nothing
  pub gains_same : (from : ℕ) (seats : List S) → SeatsGain holds adds workers cut items from seats seats
  gains_same from seats = grind arith

  -- and have all that there is, where the items end before their first piece
  pub haves_idle : (from : ℕ) (seats : List S) → (0 < length seats → length items ≤ from * cut)
      → SeatsHave holds adds workers cut items from seats
  haves_idle from seats past = grind (arith, common_steps)

-- a list of one member
pub one_member : {X : Type 0} (xs : List X) → length xs ≡ 1 → (x : X) × (xs ≡ x ∷ [])
one_member (x ∷ []) e = (x, refl)
one_member xs e = absurd (omega arith)

pub IfOk-both : {A B C E : Type 0} (r : Result C E) (a : Result A E) (b : Result B E) (R : A → B → C → Type 0)
    (P : A → Type 0) (Q : B → Type 0) (Z : C
    → Type 0) → IfOk r (λ z. IsOkAnd a (λ x. IsOkAnd b (λ y. R x y z))) → IfOk a P → IfOk b Q
    → ((x : A) (y : B) (z : C) → R x y z → P x → Q y → Z z) → IfOk r Z
IfOk-both r a b R P Q Z h p q f = grind arith

pub OnOk-both : {X E : Type 0} (r : Result X E) (P Q Z : Type 0) → OnOk r P → OnOk r Q → (P → Q → Z) → OnOk r Z
OnOk-both r P Q Z p q f = grind arith

pub get_drop : {X : Type 0} (p : ℕ) (xs : List X) (o : ℕ) → slice_get (drop p xs) o ≡ slice_get xs (p + o)
get_drop (suc p) (x ∷ xs) o = grind (arith, slice_get, get_drop p xs o)
get_drop p xs o = grind arith

pub get_take : {X : Type 0} (n : ℕ) (xs : List X) (o : ℕ) → o < n → slice_get (take n xs) o ≡ slice_get xs o
get_take (suc n) (x ∷ xs) (suc o) h = get_take n xs o (omega arith)
get_take n xs o h = grind arith

pub take_get : {X : Type 0} (n : ℕ) (xs : List X) (o : ℕ) (t : X) → slice_get (take n xs) o ≡ Some t
    → slice_get xs o ≡ Some t
take_get n xs o t e = grind (arith, common_steps, slice_get_within (take n xs) o t e, get_take n xs o)

-- what is taken of all items is taken of a piece
pub takes_part : {T : Type 0} (takes : ℕ → T → Type 0) (items part : List T) (first c : ℕ)
    → part ≡ take c (drop first items) → TakesAll takes 0 items
    → TakesAll takes first part
takes_part takes items part first c is all i t e =
    grind (arith, all (first + i) t, get_drop, take_get c (drop first items) i t)
