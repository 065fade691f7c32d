-- Members of lists, and sums over the lists of all views.
use Rattle.share_work.proofs.Common.{append-nil, ◌++◌, ◌≡◌, ℕ, zero, suc, ◌+◌, ◌<◌, ◌≤◌, ◌⊎◌, Bool, true, false, cond, eqb, ◌&&◌, List, [], ◌∷◌, map, set, sym, refl, subst, arith, filter, All, AllPairs, Contains, flat_map, sum_by, count_by, common_steps, cases_Bool, Contains-get_or, Contains-append_left, Contains-append_right, Contains-append_cases, All-contains, All-contains_itself, All-filter, filter_passes, sum_by-cons, sum_by-append, sum_by_push, some, some-injective, some-ne-none, get_elem?, at_set, at_snoc, Call, Some, slice_get, slice_get_within}
use Rattle.std.proofs.lemmas.List.Kept.{AllPairs-cons}
use Rattle.std.proofs.lemmas.Option.{get_or_from_slice_get}

pub none_in : {A : Type 0} (x : A) → Contains {X = A} [] x → ⊥
none_in x (k, inside, is) = omega (arith, inside)

pub front : {A : Type 0} (x : A) (xs : List A) → Contains (x ∷ xs) x
front x xs = (zero, omega arith, refl)

pub behind : {A : Type 0} (x : A) (xs : List A) (y : A) → Contains xs y → Contains (x ∷ xs) y
behind x xs y (k, inside, is) = (suc k, omega (arith, inside), is)

pub front_or_behind : {A : Type 0} (x : A) (xs : List A) (y : A) → Contains (x ∷ xs) y → (x ≡ y) ⊎ Contains xs y
front_or_behind x xs y w = grind arith

pub all_of : {A : Type 0} (P : A → Type 0) (xs : List A) → ((x : A) → Contains xs x → P x) → All P xs
all_of P xs f k d inside = f _ (Contains-get_or xs k d inside)

pub pairs_first : {A : Type 0} (R : A → A → Type 0) (x : A) (xs : List A) → AllPairs R (x ∷ xs) → (y : A)
    → Contains xs y → R x y
pairs_first R x xs pairs y (k, inside, is) = subst (R x) is (pairs 0 (suc k) y (omega arith) (omega (arith, inside)))

pub pairs_cons : {A : Type 0} (R : A → A → Type 0) (x : A) (xs : List A) → ((y : A) → Contains xs y → R x y)
    → AllPairs R xs → AllPairs R (x ∷ xs)
pairs_cons R x xs each pairs = AllPairs-cons R x xs (all_of (R x) xs each) pairs

pub at_in : {A : Type 0} (xs : List A) (i : ℕ) (x : A) → get_elem? xs i ≡ some x → Contains xs x
at_in (y ∷ ys) (suc i) x e = behind y ys x (at_in ys i x e)
at_in xs i x e = grind (arith, front, some-injective, some-ne-none)

pub contains_at : {A : Type 0} (xs : List A) (k : ℕ) (x : A) → slice_get xs k ≡ Some x → Contains xs x
contains_at xs k x at = (k, slice_get_within xs k x at, get_or_from_slice_get xs k x x at)

pub in_map : {A B : Type 0} (f : A → B) (xs : List A) (x : A) → Contains xs x → Contains (map f xs) (f x)
in_map f xs x h = grind (arith, common_steps)

pub of_map : {A B : Type 0} (f : A → B) (xs : List A) (y : B) → Contains (map f xs) y
    → (x : A) × Contains xs x × (f x ≡ y)
of_map f [] y h = absurd (none_in y h)
of_map f (x ∷ xs) y h = grind (arith, front_or_behind (f x) (map f xs) y h, of_map f xs y, front x xs, behind x xs)

pub in_flat : {A B : Type 0} (f : A → List B) (xs : List A) (x : A) (y : B) → Contains xs x → Contains (f x) y
    → Contains (flat_map f xs) y
in_flat f [] x y h k = absurd (none_in x h)
in_flat f (z ∷ zs) x y h k =
    grind (arith, front_or_behind, Contains-append_left, Contains-append_right, in_flat f zs x y)

pub of_flat : {A B : Type 0} (f : A → List B) (xs : List A) (y : B) → Contains (flat_map f xs) y
    → (x : A) × Contains xs x × Contains (f x) y
of_flat f [] y h = absurd (none_in y h)
of_flat f (x ∷ xs) y h =
    grind (arith, Contains-append_cases (f x) (flat_map f xs) y h, of_flat f xs y, front x xs, behind x xs)

pub of_filter : {A : Type 0} (p : A → Bool) (xs : List A) (x : A) → Contains (filter p xs) x
    → Contains xs x × (p x ≡ true)
of_filter p xs x h = (
  All-contains (Contains xs) (filter p xs) x (All-filter p (Contains xs) xs (All-contains_itself xs)) h,
  All-contains (λ y. p y ≡ true) (filter p xs) x (filter_passes p xs) h,
)

pub in_filter : {A : Type 0} (p : A → Bool) (xs : List A) (x : A) → Contains xs x → p x ≡ true
    → Contains (filter p xs) x
in_filter p [] x h t = absurd (none_in x h)
in_filter p (y ∷ ys) x h t =
    grind (arith, cases_Bool (p y), front_or_behind y ys x h, front x, behind y (filter p ys) x, in_filter p ys x)

-- ---- sums and counts

pub sum_by-flat_map : {A B : Type 0} (h : B → ℕ) (f : A → List B) (xs : List A)
    → sum_by h (flat_map f xs) ≡ sum_by (λ x. sum_by h (f x)) xs
sum_by-flat_map h f [] = refl
sum_by-flat_map h f (x ∷ xs) = grind (arith, common_steps, sum_by-append, sum_by-cons, sum_by-flat_map h f xs)

pub sum_by-at_set : {A : Type 0} (f : A → ℕ) (xs : List A) (i : ℕ) (v w : A) → get_elem? xs i ≡ some v
    → sum_by f (set xs i w) + f v ≡ sum_by f xs + f w
sum_by-at_set f (x ∷ xs) (suc i) v w e = grind (arith, sum_by-cons, sum_by-at_set f xs i v w e)
sum_by-at_set f xs i v w e = grind (arith, some-injective, some-ne-none, sum_by-cons)

pub sum_by-at : {A : Type 0} (f : A → ℕ) (xs : List A) (i : ℕ) (v : A) → get_elem? xs i ≡ some v → f v ≤ sum_by f xs
sum_by-at f (x ∷ xs) (suc i) v e = omega (arith, sum_by-cons f x xs, sum_by-at f xs i v e)
sum_by-at f xs i v e = grind (arith, some-injective, some-ne-none, sum_by-cons)

pub sum_by-map : {A B : Type 0} (f : B → ℕ) (g : A → B) (xs : List A) → sum_by f (map g xs) ≡ sum_by (λ x. f (g x)) xs
sum_by-map f g [] = refl
sum_by-map f g (x ∷ xs) = grind (arith, common_steps, sum_by-cons, sum_by-map f g xs)

-- sums over the lists of all views, where one is set, and where one more is pushed or set to nothing
module _ {V A : Type 0} (h : A → ℕ) (f : V → List A) (views : List V) (id : ℕ) (v : V)
    (at : get_elem? views id ≡ some v) (w : V) where
  pub flat_set : sum_by h (flat_map f (set views id w)) + sum_by h (f v) ≡ sum_by h (flat_map f views) + sum_by h (f w)
  flat_set = grind (arith, sum_by-at_set, sum_by-flat_map)

  pub flat_split : (r : V) → sum_by h (flat_map f (set views id w ++ r ∷ [])) + sum_by h (f v)
      ≡ sum_by h (flat_map f views) + sum_by h (f w) + sum_by h (f r)
  flat_split r = grind (arith, common_steps, flat_set, sum_by-flat_map, sum_by_push)

  pub flat_join : (other : ℕ) (u s : V) → get_elem? (set views id w) other ≡ some u
      → sum_by h (flat_map f (set (set views id w) other s)) + sum_by h (f v) + sum_by h (f u)
      ≡ sum_by h (flat_map f views) + sum_by h (f w) + sum_by h (f s)
  flat_join other u s at' = grind (arith, common_steps, flat_set, sum_by-at_set, sum_by-flat_map)

-- what holds of each view, where one is set and one is pushed
module _ {V : Type 0} (P : V → Type 0) where
  abbrev pub EachAt : List V → Type 0
  EachAt views = (id : ℕ) (v : V) → get_elem? views id ≡ some v → P v

  pub each_set : (views : List V) (id : ℕ) (w : V) → P w → EachAt views → EachAt (set views id w)
  each_set views id w mine old j u e = grind (arith, at_set, get_elem?, some)

  pub each_split : (views : List V) (id : ℕ) (w r : V) → P w → P r → EachAt views → EachAt (set views id w ++ r ∷ [])
  each_split views id w r mine new old j u e = grind (arith, common_steps, at_snoc, each_set)

-- where one view has all the parts, and a view without parts has no items, all items are that view's
module _ {V A : Type 0} (parts : V → ℕ) (items : V → List A) where
  abbrev EmptyIfSpent : List V → Type 0
  EmptyIfSpent views = (id : ℕ) (v : V) → get_elem? views id ≡ some v → parts v ≡ 0 → items v ≡ []

  none_left : (views : List V) → EmptyIfSpent views → sum_by parts views ≡ 0 → flat_map items views ≡ []
  none_left [] empty e = refl
  none_left (u ∷ us) empty e = grind (arith, sum_by-cons, empty 0 u refl, none_left us (λ id. empty (suc id)))

  pub only_one : (views : List V) (id : ℕ) (v : V) → get_elem? views id ≡ some v → EmptyIfSpent views
      → sum_by parts views ≡ parts v → flat_map items views ≡ items v
  only_one [] id v at empty e = absurd (some-ne-none v (sym at))
  only_one (u ∷ us) zero v at empty e =
      grind (arith, common_steps, some-injective u v at, none_left us (λ id. empty (suc id)), sum_by-cons, append-nil)
  only_one (u ∷ us) (suc id) v at empty e =
      grind (arith, sum_by-cons, sum_by-at parts us id v at, empty 0 u refl, only_one us id v at (λ j. empty (suc j)))

module _ {A : Type 0} (p : A → Bool) where
  pub count_by-no : (x : A) (xs : List A) → p x ≡ false → count_by p (x ∷ xs) ≡ count_by p xs
  count_by-no x xs e = grind arith

  pub count_by-yes : (x : A) (xs : List A) → p x ≡ true → count_by p (x ∷ xs) ≡ 1 + count_by p xs
  count_by-yes x xs e = grind (arith, common_steps)

  pub count_in : (xs : List A) (x : A) → Contains xs x → p x ≡ true → 0 < count_by p xs
  count_in xs x h t = grind (arith, common_steps)

  pub count_of : (xs : List A) → 0 < count_by p xs → (x : A) × Contains xs x × (p x ≡ true)
  count_of [] h = absurd (omega (arith, h))
  count_of (y ∷ ys) h = grind (arith, common_steps, behind, cases_Bool, count_by-no, front, count_of ys)

-- a list that weighs no more, however members are weighed, has no further members
abbrev pub Within : {A : Type 0} → List A → List A → Type 0
Within {A} xs ys = (h : A → ℕ) → sum_by h xs ≤ sum_by h ys

within_by : {A : Type 0} (p : A → A → Bool) → ((x : A) → p x x ≡ true) → ((x y : A) → p x y ≡ true → x ≡ y)
    → (xs ys : List A) → Within xs ys
    → (x : A) → Contains xs x → Contains ys x
within_by p self is xs ys le x h =
    let r = count_of (p x) ys (omega (arith, le (λ y. cond (p x y) 1 0), count_in (p x) xs x h (self x))) in
    subst (Contains ys) (sym (is x r.0 r.2)) r.1

pub pairs_in : (ps qs : List (ℕ × ℕ)) → Within ps qs → (p : ℕ × ℕ) → Contains ps p → Contains qs p
pairs_in = within_by (λ p q. eqb p.0 q.0 && eqb p.1 q.1) (λ p. grind arith)
    (λ p q e. let is : (p.0 ≡ q.0) × (p.1 ≡ q.1) = grind arith in λ i. (is.0 i, is.1 i))

-- pairs that weigh the same, however they are weighed, are the same
pub pairs_both : (ps qs : List (ℕ × ℕ)) → ((h : ℕ × ℕ → ℕ) → sum_by h ps ≡ sum_by h qs)
    → ((p : ℕ × ℕ) → Contains ps p → Contains qs p) × ((p : ℕ × ℕ) → Contains qs p → Contains ps p)
pairs_both ps qs same = (pairs_in ps qs (λ h. omega (arith, same h)), pairs_in qs ps (λ h. omega (arith, same h)))

pub calls_in : (xs ys : List Call) → Within xs ys → (c : Call) → Contains xs c → Contains ys c
calls_in = within_by (λ c d. eqb c.word d.word && (eqb c.found d.found && eqb c.number d.number)) (λ c. grind arith)
    (λ c d e. let is : (c.word ≡ d.word) × (c.found ≡ d.found) × (c.number ≡ d.number) = grind arith in
    λ i. record { word = is.0 i; found = is.1 i; number = is.2 i })
