-- Sets of spots, the least of a union, and the first n elements of a list.
use Rattle.std.proofs.Common.{◌≡◌, ◌∙◌, sym, ℕ, ◌+◌, ◌<◌, ◌≤◌, List, length, get_or, ap, refl, arith, inl, inr, ◌⊎◌, ⊎_elim, cond}
use Rattle.std.specs.Prelude.{Option, Some, None, Bool, true, ◌↔◌}
use Rattle.std.proofs.lemmas.Bool.{cases_lt}
use Rattle.std.proofs.lemmas.List.{get_or_default}
use Rattle.std.specs.declared.cmp.Ordering.{Ordering}
use Rattle.std.specs.Ordering.{nat_cmp, is_eq}
use Rattle.std.specs.Cmp.Lexicographic.{slice_cmp}
use Rattle.std.specs.BTreeSet.{BTreeSet, contains, Updates}
use Rattle.std.proofs.lemmas.Cmp.{nat_cmp_total, nat_list_cmp_total, tied_itself}
use Rattle.std.proofs.lemmas.Map.Lookups.{exact_bytes, exact_unsigned}
use denote.Ref.{Bor}
use Rattle.proto_base.specs.declared.spot.Spot.{Spot}
use Rattle.proto_base.specs.Least.{IsLeast, IsLeastBy, AtMost}
use Rattle.proto_base.specs.Lesser.{IsLesser}
use Rattle.proto_base.specs.Sets.{◌∪◌, StandsAt, Each, Later}

-- ---- the least of a set

pub least_none : (S : Spot → Type 0) → ((x : Spot) → S x → ⊥) → IsLeast S None
least_none S h = record { is = h }

pub least_some : (S : Spot → Type 0) (a : Spot) → S a → ((x : Spot) → S x → AtMost a x) → IsLeast S (Some a)
least_some S a among least = record { is = record { among = among; least = least } }

-- a set without a least has nothing
pub none_of : (S : Spot → Type 0) (a : Option Spot) → IsLeast S a → a ≡ None → (x : Spot) → S x → ⊥
none_of S a p e = (rw e at p).is

-- what is the least of a set
pub least_of : (S : Spot → Type 0) (a : Option Spot) (c : Spot) → IsLeast S a → a ≡ Some c → IsLeastBy AtMost S c
least_of S a c p e = (rw e at p).is

at_most_itself : (a : Spot) → AtMost a a
at_most_itself a = inr (refl, omega arith)

at_most_on : (a b c : Spot) → AtMost a b → AtMost b c → AtMost a c
at_most_on a b c h k = grind arith

-- what comes no later than the least comes no later than each
least_after : (S : Spot → Type 0) (a : Option Spot) (c x : Spot) → IsLeast S a → ((y : Spot) → a ≡ Some y → AtMost c y)
    → S x → AtMost c x
least_after S None c x p h s = absurd (p.is x s)
least_after S (Some y) c x p h s = at_most_on c y x (h y refl) (p.is.least x s)

least_no : (S : Spot → Type 0) (a : Option Spot) (x : Spot) → IsLeast S a → ((y : Spot) → a ≡ Some y → ⊥) → S x → ⊥
least_no S None x p h s = p.is x s
least_no S (Some y) x p h s = h y refl

-- U is the union of S and T
pub least_or : (S T U : Spot → Type 0) (a b r : Option Spot) → ((x : Spot) → U x → S x ⊎ T x) → ((x : Spot) → S x → U x)
    → ((x : Spot) → T x → U x)
    → IsLeast S a → IsLeast T b → IsLesser a b r → IsLeast U r
least_or S T U a b None split left right p q w = record {
  is = λ x u. ⊎_elim (least_no S a x p (λ y e. w.least.is y (inl e))) (least_no T b x q (λ y e. w.least.is y (inr e)))
      (split x u);
}
least_or S T U a b (Some c) split left right p q w = least_some U c
    (elim w.least.is.among [ inl e ↦ left c (least_of S a c p e).among | inr e ↦ right c (least_of T b c q e).among ])
    (λ x u. ⊎_elim (least_after S a c x p (λ y e. w.least.is.least y (inl e)))
    (least_after T b c x q (λ y e. w.least.is.least y (inr e))) (split x u))

-- two sets with the same elements
pub least_same : (S U : Spot → Type 0) (a : Option Spot) → ((x : Spot) → U x → S x) → ((x : Spot) → S x → U x)
    → IsLeast S a → IsLeast U a
least_same S U None back on p = least_none U (λ x u. p.is x (back x u))
least_same S U (Some a) back on p = least_some U a (on a p.is.among) (λ x u. p.is.least x (back x u))

-- the least of one fault
pub least_one : (s : Spot) → IsLeast (λ x. x ≡ s) (Some s)
least_one s = grind (arith, at_most_itself)

-- a spot that is known
least_known : (o : Option Spot) → IsLeast (λ x. o ≡ Some x) o
least_known o = grind (arith, at_most_itself)

pub lesser_none : (p : Option Spot) → IsLesser p None p
lesser_none p = record {
  least = least_same _ _ p (λ x w. grind arith) (λ x e. inl e) (least_known p);
}

-- ---- the first n elements

-- what the first n elements make by themselves
abbrev pub EachTo : {X : Type 0} → List X → ℕ → (X → Spot → Type 0) → Spot → Type 0
EachTo {X} xs n S x = (i : ℕ) × (a : X) × (i < n) × StandsAt xs i a × S a x

-- at one place one element stands
pub one_at : {X : Type 0} (xs : List X) (i j : ℕ) (a b : X) → i ≡ j → StandsAt xs i a → StandsAt xs j b → a ≡ b
one_at xs i j a b e s t = sym s.1 ∙ ap (λ k. get_or xs k a) e ∙ get_or_default xs j a b t.0 ∙ t.1

-- what a loop over plain structs reads at n
pub item_at : {X : Type 0} (xs : List X) (n : ℕ) (d : X) → n < length xs → StandsAt xs n (get_or xs n d)
item_at xs n d h = grind (arith, get_or_default)

module _ {X : Type 0} (xs : List X) (S : X → Spot → Type 0) (n : ℕ) where
  -- one element more
  pub each_next : (a : X) → StandsAt xs n a → (x : Spot) → (EachTo xs n S ∪ S a) x ↔ EachTo xs (n + 1) S x
  each_next a here x = (
    λ w. elim w [
      | inl v ↦ (v.0, v.1, omega (arith, v.2), v.3, v.4)
      | inr s ↦ (n, a, omega arith, here, s)
    ],
    λ w. grind (arith, cases_lt, one_at),
  )

  -- all of them
  pub each_done : length xs ≤ n → (x : Spot) → EachTo xs n S x ↔ Each xs S x
  each_done end x = (λ w. grind arith, λ w. grind arith)

  pub each_more : (a : X) (p q r : Option Spot) → StandsAt xs n a → IsLeast (EachTo xs n S) p → IsLeast (S a) q
      → IsLesser p q r → IsLeast (EachTo xs (n + 1) S) r
  each_more a p q r here h k w = least_or _ _ _ p q r (λ x. (each_next a here x).1)
      (λ x v. (each_next a here x).0 (inl v)) (λ x s. (each_next a here x).0 (inr s)) h k w

  pub each_all : (r : Option Spot) → length xs ≤ n → IsLeast (EachTo xs n S) r → IsLeast (Each xs S) r
  each_all r end h = least_same _ _ r (λ x. (each_done end x).1) (λ x. (each_done end x).0) h

-- clashes of the first n elements
abbrev pub LaterTo : {X : Type 0} → List X → ℕ → (X → X → Type 0) → (X → Spot) → Spot → Type 0
LaterTo {X} xs n R at x = (i j : ℕ) × (a b : X) × (i < j) × (j < n) × StandsAt xs i a × StandsAt xs j b
    × R a b × (x ≡ at b)

-- an earlier element that clashes with b
abbrev pub HasEarlier : {X : Type 0} → List X → ℕ → (X → X → Type 0) → X → Type 0
HasEarlier {X} xs n R b = (i : ℕ) × (a : X) × (i < n) × StandsAt xs i a × R a b

module _ {X : Type 0} (xs : List X) (R : X → X → Type 0) (at : X → Spot) (n : ℕ) where
  later_split : (c : X) → StandsAt xs n c → (x : Spot) → LaterTo xs (n + 1) R at x
      → LaterTo xs n R at x ⊎ (HasEarlier xs n R c × (x ≡ at c))
  later_split c here x (i, j, a, b, before, below, there, then, r, e) = elim (cases_lt j n) [
    | inl old ↦ inl (i, j, a, b, before, old, there, then, r, e)
    | inr last ↦ let same = one_at xs j n b c (omega arith) then here in
        inr ((i, a, omega arith, there, rw same at r), e ∙ ap at same)
  ]

  later_old : (x : Spot) → LaterTo xs n R at x → LaterTo xs (n + 1) R at x
  later_old x w = grind arith

  -- one element more, which clashes
  pub later_clash : (c : X) → StandsAt xs n c → HasEarlier xs n R c → (x : Spot)
      → (LaterTo xs n R at ∪ (λ y. y ≡ at c)) x ↔ LaterTo xs (n + 1) R at x
  later_clash c here early x = (
    λ w. elim w [
      | inl v ↦ later_old x v
      | inr e ↦ (early.0, n, early.1, c, early.2, omega arith, early.3, here, early.4, e)
    ],
    λ v. grind (arith, later_split c here x v),
  )

  -- one that does not
  pub later_skip : (c : X) → StandsAt xs n c → (HasEarlier xs n R c → ⊥) → (x : Spot)
      → LaterTo xs n R at x ↔ LaterTo xs (n + 1) R at x
  later_skip c here none x = (later_old x, λ v. grind (arith, later_split c here x v))

  pub later_done : length xs ≤ n → (x : Spot) → LaterTo xs n R at x ↔ Later xs R at x
  later_done end x = (λ w. grind arith, λ w. grind arith)

-- ---- tables of keys

-- keys that compare equal are those with one value
abbrev pub Exact : {K T : Type 0} → (K → K → Ordering) → (K → T) → Type 0
Exact {K} cmp show = (k q : K) → (is_eq (cmp k q) ≡ true) ↔ (show k ≡ show q)

pub exact_number : Exact nat_cmp (λ n. n)
exact_number k q = grind (arith, exact_unsigned, nat_cmp_total, tied_itself)

abbrev pub text_cmp : Bor (List ℕ) → Bor (List ℕ) → Ordering
text_cmp x y = slice_cmp nat_cmp x.now y.now

pub exact_text : Exact text_cmp (λ k. k.now)
exact_text k q = grind (arith, exact_bytes, nat_list_cmp_total, tied_itself)

pub cond_or : (b o : Bool) → cond b true o ≡ true → (b ≡ true) ⊎ (o ≡ true)
cond_or b o h = grind arith

pub cond_right : (b o : Bool) → o ≡ true → cond b true o ≡ true
cond_right b o h = grind arith

module _ {X K T : Type 0} (cmp : K → K → Ordering) (show : K → T) (key : X → T) where
  -- a table holds the keys of the first n elements
  abbrev pub Seen : List X → BTreeSet K → ℕ → Type 0
  Seen xs s n = (q : K)
      → (contains cmp s q ≡ true) ↔ ((i : ℕ) × (a : X) × (i < n) × StandsAt xs i a × (key a ≡ show q))

  pub seen_more : (xs : List X) (s t : BTreeSet K) (n : ℕ) (c : X) (k : K) → Exact cmp show → StandsAt xs n c
      → show k ≡ key c → Updates cmp s t k true → Seen xs s n → Seen xs t (n + 1)
  seen_more xs s t n c k exact here e new seen q = (
    λ h. grind (arith, cond_or (is_eq (cmp k q)) (contains cmp s q), new.0 q, exact k q, seen q),
    λ w. grind (arith, cases_lt w.0 n, cond_right (is_eq (cmp k q)), new.0 q, exact k q, seen q, one_at xs n w.0 c w.1),
  )
