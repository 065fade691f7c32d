-- Elements that clash with earlier ones.
use Rattle.proto_checks.proofs.Common.{◌≡◌, refl, ℕ, zero, suc, leb, ◌+◌, ◌-◌, ◌%◌, ◌<◌, inl, inr, ◌⊎◌, List, [], ◌∷◌, ◌++◌, length, get_or, take, set, map, arith, Bool, true, false, ◌↔◌, ◌&&◌, nat_lt, AllAdjacentBelow, list_any, both_ways, cases_lt, false≢true, nat_tests, common_steps, get_or_default, get_or-take, length-take-le, get_or-append-add, Any-from_list_any, list_any-from_Any, Spot, spot, ◌∪◌, StandsAt, Each, Later, Where, Gains, HasEarlier, each_single, gains_none, gains_same, gains_union, item_at, later_short, one_at, PackageTwice, Marked, NumberTwice, ReservedOverlap, MarkedNumber, MarkedRange}
use Rattle.std.specs.Bool.{Decides}
use Rattle.proto_base.specs.declared.kind.Kind.{Kind}
use Rattle.proto_base.specs.declared.kind.Kind.TheVariants as kind
use Rattle.proto_tree.specs.declared.file.Package.{Package}

-- what is made of the element at n stands at n
pub stands_made : {X Y : Type 0} (f : X → Y) (xs : List X) (n : ℕ) (a : X) → n < length xs → a ≡ get_or xs n a
    → StandsAt (map f xs) n (f a)
stands_made f xs n a below is = grind (arith, common_steps)

-- the test finds the elements that clash with c
module _ {X : Type 0} (xs : List X) (R : X → X → Type 0) (test : X → Bool) (n : ℕ) (c : X)
    (told : (a : X) → Decides (test a) (R a c)) (here : StandsAt xs n c) where
  pub few_has : list_any test (take n xs) ≡ true → HasEarlier xs n R c
  few_has some = grind (arith, get_or-take, length-take-le, Any-from_list_any)

  pub few_lacks : list_any test (take n xs) ≡ false → HasEarlier xs n R c → ⊥
  few_lacks none early = grind (arith, both_ways, get_or-take, length-take-le, list_any-from_Any)

-- the lengths of the first n texts are taken
abbrev pub AreTaken : List Marked → ℕ → List Bool → Type 0
AreTaken ts n taken = (i : ℕ) (a : Marked) → i < n → StandsAt ts i a → get_or taken (length a.text % 64) false ≡ true

pub taken_more : (ts : List Marked) (n : ℕ) (taken : List Bool) (c : Marked) → length taken ≡ 64 → StandsAt ts n c
    → AreTaken ts n taken → AreTaken ts (n + 1) (set taken (length c.text % 64) true)
taken_more ts n taken c size here old i a below there = grind (arith, common_steps, cases_lt, one_at)

-- a text of another length than all before it
pub untaken_lacks : (ts : List Marked) (n : ℕ) (taken : List Bool) (c : Marked) → StandsAt ts n c
    → AreTaken ts n taken → get_or taken (length c.text % 64) false ≡ false
    → HasEarlier ts n (λ a b. a.text ≡ b.text) c → ⊥
untaken_lacks ts n taken c here old free early = grind (arith, both_ways)

-- within two lists, and across them
module _ {X : Type 0} (R : X → X → Type 0) (at : X → Spot) (xs ys : List X) where
  abbrev pub Across : X → Spot → Type 0
  Across b x = ((i : ℕ) × (a : X) × StandsAt xs i a × R a b) × (x ≡ at b)

  abbrev InParts : Spot → Type 0
  InParts = Later xs R at ∪ Later ys R at ∪ Each ys Across

  stands_split : (i : ℕ) (a : X) → StandsAt (xs ++ ys) i a
      → ((i < length xs) × StandsAt xs i a) ⊎ ((j : ℕ) × (i ≡ length xs + j) × StandsAt ys j a)
  stands_split i a s = elim (cases_lt i (length xs)) [
    | inl less ↦ inl (grind (arith, common_steps))
    | inr more ↦ inr (i - length xs, omega arith, grind (arith, common_steps))
  ]

  stands_left : (i : ℕ) (a : X) → StandsAt xs i a → StandsAt (xs ++ ys) i a
  stands_left i a s = grind (arith, common_steps)

  stands_right : (i : ℕ) (a : X) → StandsAt ys i a → StandsAt (xs ++ ys) (length xs + i) a
  stands_right i a s = grind (arith, common_steps, get_or-append-add)

  part_of : (x : Spot) → Later (xs ++ ys) R at x → InParts x
  part_of x w = grind (arith, stands_split w.0 w.2 w.5, stands_split w.1 w.3 w.6)

  of_part : (x : Spot) → InParts x → Later (xs ++ ys) R at x
  of_part x (inl (inl w)) = grind (arith, stands_left w.0 w.2 w.5, stands_left w.1 w.3 w.6)
  of_part x (inl (inr w)) = grind (arith, stands_right w.0 w.2 w.5, stands_right w.1 w.3 w.6)
  of_part x (inr w) = grind (arith, stands_left, stands_right w.0 w.1 w.2)

  pub later_append : (x : Spot) → InParts x ↔ Later (xs ++ ys) R at x
  later_append x = (of_part x, part_of x)

-- lists that rise: each element stands before the next, by a test that carries over
abbrev pub Rises : {X : Type 0} → (X → X → Bool) → List X → Type 0
Rises before xs = AllAdjacentBelow (λ a b. true ≡ before a b) xs (length xs)

module _ {X : Type 0} (before : X → X → Bool)
    (on : (a b c : X) → true ≡ before a b → true ≡ before b c → true ≡ before a c) (xs : List X)
    (up : Rises before xs) where
  before_far : (i j : ℕ) (d : X) → i < j → j < length xs → true ≡ before (get_or xs i d) (get_or xs j d)
  before_far i zero d early below = absurd (omega arith)
  before_far i (suc k) d early below =
      grind (arith, cases_lt i k, up k d, on (get_or xs i d) (get_or xs k d), before_far i k d)

  -- none that clashes stands before another
  rising_none : (R : X → X → Type 0) (at : X → Spot) → ((a b : X) → true ≡ before a b → R a b → ⊥) → (x : Spot)
      → Later xs R at x → ⊥
  rising_none R at apart x w = grind (arith, before_far w.0 w.1 w.2, apart w.2 w.3, get_or_default)

abbrev pub is_less : MarkedNumber → MarkedNumber → Bool
is_less a b = nat_lt a.number b.number

pub numbers_none : (ns : List MarkedNumber) → Rises is_less ns → (k : Kind) (x : Spot) → NumberTwice k ns x → ⊥
numbers_none ns up k =
    rising_none is_less (λ a b c h l. grind (arith, nat_tests)) ns up _ _ (λ a b h e. grind (arith, nat_tests))

-- a range that is not backwards ends before the next
abbrev pub is_apart : MarkedRange → MarkedRange → Bool
is_apart a b = leb a.start a.end && nat_lt a.end b.start

pub ranges_none : (rs : List MarkedRange) → Rises is_apart rs → (x : Spot) → ReservedOverlap rs x → ⊥
ranges_none rs up =
    rising_none is_apart (λ a b c h l. grind (arith, nat_tests)) rs up _ _ (λ a b h e. grind (arith, nat_tests))

-- package statements: each but the first is one too many
abbrev pub again : Package → Spot
again p = spot p.keyword.start kind.PackageTwice

-- what a loop over packages keeps
pub record Repeated (ps : List Package) (is_named : Bool) (old new : List Spot) : Type 0 where
  pub named : (is_named ≡ true) ↔ (0 < length ps)
  pub gains : Gains (PackageTwice ps) old new

pub repeated_more : (ps : List Package) (p : Package) {is_named : Bool} {old mid new : List Spot}
    → Repeated ps is_named old mid → Gains (Where (is_named ≡ true) (again p)) mid new
    → Repeated (ps ++ p ∷ []) true old new
repeated_more ps p h k =
    let Any = λ (a b : Package). Unit {0} in
    let across : Gains (Across Any again ps (p ∷ []) p) _ _ = gains_same k (λ x. (
      λ v. ((0, get_or ps 0 p, item_at ps 0 p (h.named.0 v.0), tt), v.1),
      λ v. (h.named.1 (omega (arith, v.0.2.0)), v.1),
    )) in
    let alone = gains_none (later_short (p ∷ []) Any again (omega arith)) in
    record {
      named = (λ e. grind (arith, common_steps), λ some. refl);
      gains = gains_same
          (gains_union (gains_union h.gains alone) (gains_same across (each_single (Across Any again ps (p ∷ [])) p)))
          (later_append Any again ps (p ∷ []));
    }

pub repeated_none : {xs : List Spot} → Repeated [] false xs xs
repeated_none = record {
  named = grind (arith, false≢true);
  gains = gains_none (later_short [] (λ a b. Unit {0}) again (omega arith));
}

-- a test of elements, and of what is made of them
pub any_made : {A B : Type 0} (test : B → Bool) (view : A → B) (xs : List A)
    → list_any (λ x. test (view x)) xs ≡ list_any test (map view xs)
any_made test view [] = refl
any_made test view (x ∷ xs) = grind (arith, any_made test view xs)
