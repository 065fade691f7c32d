-- What work in shares gives for items, and what holds of each item and what is given for it.
use Rattle.share_work.proofs.Common.{◌≡◌, ap, refl, Some, ℕ, zero, suc, ◌+◌, ◌<◌, List, [], ◌∷◌, ◌++◌, length, take, get_or, map, arith, rules, add-zero, Result, Ok, slice_get, length-take-le, get_or_default, length-map, take_more, slice_get-map, slice_get_read, GivesItems}
use Rattle.std.specs.List.{AllZip}

-- what holds of no items, and with an item of those behind it also of all of them, holds of what is given
pub gives_each : {X Y : Type 0} (R : ℕ → X → Y → Type 0) (P : ℕ → List X → List Y → Type 0) → ((a : ℕ) → P a [] [])
    → ((a : ℕ) (x : X) (y : Y) (xs : List X) (ys : List Y) → R a x y → P (a + 1) xs ys → P a (x ∷ xs) (y ∷ ys))
    → (a : ℕ) (xs : List X) (ys : List Y) → GivesItems R a xs ys → P a xs ys
gives_each R P none more a [] [] gives = none a
gives_each R P none more a (x ∷ xs) (y ∷ ys) gives =
    more a x y xs ys (rw add-zero at (gives.1 0 x y refl refl)) (gives_each R P none more (a + 1) xs ys (
      omega (arith, gives.0),
      λ i t o item out. let next : a + 1 + i ≡ a + suc i = omega arith in rw next (gives.1 (suc i) t o item out),
    ))
gives_each R P none more a xs ys gives = absurd (omega (arith, gives.0))

-- one more in front
gives_first : {X Y : Type 0} (R : ℕ → X → Y → Type 0) (a : ℕ) (x : X) (y : Y) (xs : List X) (ys : List Y) → R a x y
    → GivesItems R (a + 1) xs ys → (i : ℕ) (t : X) (o : Y) → slice_get (x ∷ xs) i ≡ Some t
    → slice_get (y ∷ ys) i ≡ Some o → R (a + i) t o
gives_first R a x y xs ys here rest zero t o item out = grind arith
gives_first R a x y xs ys here rest (suc i) t o item out = grind (arith, rest.1 i t o item out)

-- more behind
pub gives_append : {X Y : Type 0} (R : ℕ → X → Y → Type 0) (ys : List X) (b : List Y) (a : ℕ) (xs : List X) (o : List Y)
    → GivesItems R a xs o → GivesItems R (a + length xs) ys b → GivesItems R a (xs ++ ys) (o ++ b)
gives_append R ys b = gives_each R (λ a xs o. GivesItems R (a + length xs) ys b → GivesItems R a (xs ++ ys) (o ++ b))
    (λ a h. rw add-zero at h)
    (λ a x y xs o here more h. let at : a + 1 + length xs ≡ a + suc (length xs) = omega arith in
    let rest = more (rw at h) in (ap suc rest.0, gives_first R a x y _ _ here rest))

-- the item behind those that were taken
pub gives_next : {X Y : Type 0} (R : ℕ → X → Y → Type 0) (a : ℕ) (xs : List X) (k : ℕ) (x : X) (ys : List Y) (y : Y)
    → k < length xs → x ≡ get_or xs k x → GivesItems R a (take k xs) ys → R (a + k) x y
    → GivesItems R a (take (k + 1) xs) (ys ++ y ∷ [])
gives_next R a xs k x ys y h is gives here =
    let last = gives_first R (a + k) x y [] [] here (refl, λ i t o item out. absurd (search rules)) in
    let more : take (k + 1) xs ≡ take k xs ++ x ∷ [] = grind (arith, take_more) in
    let longer = gives_append R (x ∷ []) (y ∷ []) a (take k xs) ys gives in grind (arith, length-take-le)

-- where positions do not matter
pub all_of_gives : {X Y : Type 0} (R : X → Y → Type 0) (a : ℕ) (xs : List X) (ys : List Y) → GivesItems (λ k. R) a xs ys
    → AllZip R xs ys
all_of_gives R = gives_each (λ k. R) (λ k. AllZip R) (λ a. tt) (λ a x y xs ys here rest. (here, rest))

-- what stands at a position in both, the given with any default
pub given_at : {X Y : Type 0} (R : ℕ → X → Y → Type 0) (xs : List X) (ys : List Y) (k : ℕ) (x : X) (d y : Y)
    → GivesItems R 0 xs ys → k < length xs → get_or xs k x ≡ x → get_or ys k d ≡ y → R k x y
given_at R xs ys k x d y gives h at is =
    let item = slice_get_read xs (length xs) k x refl h in let out = slice_get_read ys (length ys) k y refl in
    grind (arith, get_or_default ys k d y, gives.1 k x y)

-- where each is given `Ok`
pub gives_well : {X T E : Type 0} (R : ℕ → X → Result T E → Type 0) (xs : List X) (ts : List T) (os : List (Result T E))
    → os ≡ map Ok ts → GivesItems R 0 xs os → GivesItems (λ k x t. R k x (Ok t)) 0 xs ts
gives_well R xs ts os well gives = grind (arith, length-map, slice_get-map)
