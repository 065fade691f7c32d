-- Lists that rise by one order and have the same members are the same.
use Rattle.proto_links.proofs.Common.{far, common_steps, ◌≡◌, sym, ℕ, zero, suc, ◌+◌, ◌<◌, List, [], ◌∷◌, length, get_or, ap, refl, subst, arith, ◌⊎◌, Contains}

-- each comes before the next one
abbrev pub Rises : {X : Type 0} → (X → X → Type 0) → List X → Type 0
Rises R xs = (k : ℕ) (d : _) → k + 1 < length xs → R (get_or xs k d) (get_or xs (k + 1) d)

-- nothing comes before itself
pub record IsStrict {X : Type 0} (R : X → X → Type 0) : Type 0 where
  pub never : (x : X) → R x x → ⊥
  pub trans : (x y z : X) → R x y → R y z → R x z

-- ---- members

pub none_in : {X : Type 0} (x : X) → Contains {X = X} [] x → ⊥
none_in x (k, inside, is) = omega arith

pub front : {X : Type 0} (x : X) (xs : List X) → Contains (x ∷ xs) x
front x xs = (zero, omega arith, refl)

pub behind : {X : Type 0} (x : X) (xs : List X) (z : X) → Contains xs z → Contains (x ∷ xs) z
behind x xs z (k, inside, is) = (suc k, omega arith, is)

pub front_or_behind : {X : Type 0} (x : X) (xs : List X) (z : X) → Contains (x ∷ xs) z → (x ≡ z) ⊎ Contains xs z
front_or_behind x xs z w = grind (arith, common_steps)

-- ---- what stands behind comes later

pub next_behind : {X : Type 0} (x : X) (xs : List X) (k : ℕ) (d : X)
    → get_or (x ∷ xs) (suc k + 1) d ≡ get_or xs (k + 1) d
next_behind x xs k d = let at : suc k + 1 ≡ suc (k + 1) = omega arith in ap (λ i. get_or (x ∷ xs) i d) at

pub rest_rises : {X : Type 0} (R : X → X → Type 0) (x : X) (xs : List X) → Rises R (x ∷ xs) → Rises R xs
rest_rises R x xs up k d h = subst (R (get_or xs k d)) (next_behind x xs k d) (up (suc k) d (omega arith))

pub first_before : {X : Type 0} (R : X → X → Type 0) → IsStrict R → (x : X) (xs : List X) → Rises R (x ∷ xs) → (z : X)
    → Contains xs z → R x z
first_before R strict x xs up z (k, inside, is) =
    rw is at (far R strict.trans (x ∷ xs) z (λ j. up j z) zero (suc k) (omega arith) (omega arith))

-- ---- one list

same_rest : {X : Type 0} (R : X → X → Type 0) → IsStrict R → (x y : X) (xs ys : List X) → Rises R (x ∷ xs) → x ≡ y
    → ((z : X) → Contains (x ∷ xs) z → Contains (y ∷ ys) z) → (z : X) → Contains xs z → Contains ys z
same_rest R strict x y xs ys up same to z w =
    let cases = front_or_behind y ys z (to z (behind x xs z w)) in
    grind (arith, first_before R strict x xs up z w, strict.never x)

pub one_rising : {X : Type 0} (R : X → X → Type 0) → IsStrict R → (xs ys : List X) → Rises R xs → Rises R ys
    → ((x : X) → Contains xs x → Contains ys x) → ((x : X) → Contains ys x → Contains xs x) → xs ≡ ys
one_rising R strict [] [] up over to from = refl
one_rising R strict [] (y ∷ ys) up over to from = absurd (none_in y (from y (front y ys)))
one_rising R strict (x ∷ xs) [] up over to from = absurd (none_in x (to x (front x xs)))
one_rising R strict (x ∷ xs) (y ∷ ys) up over to from =
    let first = front_or_behind x xs y (from y (front y ys)) in
    let other = front_or_behind y ys x (to x (front x xs)) in
    let before = first_before R strict x xs up y in let after = first_before R strict y ys over x in
    let same : x ≡ y = grind (arith, strict.never x, strict.trans x y x) in
    let rest : xs ≡ ys = one_rising R strict xs ys (rest_rises R x xs up) (rest_rises R y ys over)
    (same_rest R strict x y xs ys up same to) (same_rest R strict y x ys xs over (sym same) from) in
    cc
