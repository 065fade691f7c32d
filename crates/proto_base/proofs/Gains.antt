-- What a list of spots gains: by one spot, one rule after another, and the elements of a list one by one.
use Rattle.std.proofs.Common.{◌≡◌, sym, ℕ, ◌+◌, ◌≤◌, List, [], ◌∷◌, ◌++◌, length, arith, inl, inr, ◌⊎◌}
use Rattle.std.specs.Prelude.{Result, OnOk, Contains, true, false, ◌↔◌}
use Rattle.std.proofs.lemmas.List.Elements.{Contains-append_left, Contains-push, Contains-push_cases}
use Rattle.std.proofs.lemmas.Result.{on_ok_weaker}
use Rattle.std.specs.declared.cmp.Ordering.{Ordering}
use Rattle.std.specs.BTreeSet.{BTreeSet, contains, Updates}
use Rattle.proto_base.specs.declared.spot.Spot.{Spot}
use Rattle.proto_base.specs.Sets.{◌∪◌, StandsAt, Each, Later, Where, Gains}
use Rattle.proto_base.proofs.Sets.{EachTo, LaterTo, HasEarlier, each_next, each_done, later_clash, later_skip, later_done, Exact, Seen, seen_more}

-- ---- one rule, and one after another

pub gains_none : {S : Spot → Type 0} {xs : List Spot} → ((x : Spot) → S x → ⊥) → Gains S xs xs
gains_none none = record { are = λ x. (λ old. inl old, λ w. elim w [ inl old ↦ old | inr s ↦ absurd (none x s) ]) }

pub gains_one : (s : Spot) (xs : List Spot) → Gains (λ x. x ≡ s) xs (xs ++ s ∷ [])
gains_one s xs = record {
  are = λ x. (
    λ w. elim (Contains-push_cases xs s x w) [ inl old ↦ inl old | inr is ↦ inr (sym is) ],
    λ w. elim w [ inl old ↦ Contains-append_left xs (s ∷ []) x old | inr is ↦ rw is (Contains-push xs s) ],
  );
}

joined : {A B C S T : Type 0} → B ↔ (A ⊎ S) → C ↔ (B ⊎ T) → C ↔ (A ⊎ (S ⊎ T))
joined h k = grind arith

pub gains_union : {S T : Spot → Type 0} {xs ys zs : List Spot} → Gains S xs ys → Gains T ys zs → Gains (S ∪ T) xs zs
gains_union h k = record { are = λ x. joined (h.are x) (k.are x) }

changed : {A B S T : Type 0} → B ↔ (A ⊎ S) → S ↔ T → B ↔ (A ⊎ T)
changed h k = grind arith

-- the same set, said in another way
pub gains_same : {S T : Spot → Type 0} {xs ys : List Spot} → Gains S xs ys → ((x : Spot) → S x ↔ T x) → Gains T xs ys
gains_same h same = record { are = λ x. changed (h.are x) (same x) }

-- what an empty list gains is all that it has
pub gains_all : {S : Spot → Type 0} {xs : List Spot} → Gains S [] xs → (x : Spot) → Contains xs x ↔ S x
gains_all h x = (
  λ w. elim ((h.are x).0 w) [ inl none ↦ absurd (omega (arith, none.1)) | inr s ↦ s ],
  λ s. (h.are x).1 (inr s),
)

-- ---- the last rule, whose answer is handed on

pub gains_last : {E : Type 0} {S : Spot → Type 0} {xs ys : List Spot} (T : Spot → Type 0) (zs : List Spot)
    (r : Result (Unit {0}) E) → Gains S xs ys → OnOk r (Gains T ys zs) → OnOk r (Gains (S ∪ T) xs zs)
gains_last T zs r h k = on_ok_weaker r (λ t. gains_union h t) k

pub gains_as : {E : Type 0} {S T : Spot → Type 0} (xs ys : List Spot) (r : Result (Unit {0}) E)
    → OnOk r (Gains S xs ys) → ((x : Spot) → S x ↔ T x) → OnOk r (Gains T xs ys)
gains_as xs ys r h same = on_ok_weaker r (λ t. gains_same t same) h

-- a spot where P holds
pub gains_where : {E P : Type 0} (s : Spot) (xs ys : List Spot) (r : Result (Unit {0}) E) → P
    → OnOk r (Gains (λ x. x ≡ s) xs ys) → OnOk r (Gains (Where P s) xs ys)
gains_where s xs ys r p h = gains_as xs ys r h (λ x. (λ is. (p, is), λ w. w.1))

pub gains_miss : {P : Type 0} {s : Spot} {xs : List Spot} → (P → ⊥) → Gains (Where P s) xs xs
gains_miss none = gains_none (λ x w. none w.0)

-- ---- the elements of a list

-- what the first n of them make
pub record GainsTo {X : Type 0} (xs : List X) (S : X → Spot → Type 0) (n : ℕ) (old new : List Spot) : Type 0 where
  pub gains : Gains (EachTo xs n S) old new

pub gains_start : {X : Type 0} {xs : List X} {S : X → Spot → Type 0} {ys : List Spot} → GainsTo xs S 0 ys ys
gains_start = record { gains = gains_none (λ x w. absurd (omega (arith, w.2))) }

module _ {X : Type 0} {xs : List X} {S : X → Spot → Type 0} {n : ℕ} {old mid : List Spot} where
  -- one more that makes nothing
  pub gains_skip : (a : X) → StandsAt xs n a → ((x : Spot) → S a x → ⊥) → GainsTo xs S n old mid
      → GainsTo xs S (n + 1) old mid
  gains_skip a here none h =
      record { gains = gains_same (gains_union h.gains (gains_none none)) (each_next xs S n a here) }

  pub gains_each : length xs ≤ n → GainsTo xs S n old mid → Gains (Each xs S) old mid
  gains_each end h = gains_same h.gains (each_done xs S n end)

  module _ {new : List Spot} where
    -- one more
    pub gains_next : (a : X) → StandsAt xs n a → GainsTo xs S n old mid → Gains (S a) mid new
        → GainsTo xs S (n + 1) old new
    gains_next a here h k = record { gains = gains_same (gains_union h.gains k) (each_next xs S n a here) }

-- elements with a property, each at its spot
module _ {X : Type 0} {xs : List X} {P : X → Type 0} {at : X → Spot} {n : ℕ} {old mid : List Spot} where
  pub gains_hit : {new : List Spot} (a : X) → StandsAt xs n a → P a → GainsTo xs (λ b. Where (P b) (at b)) n old mid
      → Gains (λ x. x ≡ at a) mid new → GainsTo xs (λ b. Where (P b) (at b)) (n + 1) old new
  gains_hit a here p h k = gains_next a here h (gains_same k (λ x. (λ is. (p, is), λ w. w.1)))

  pub gains_pass : (a : X) → StandsAt xs n a → (P a → ⊥) → GainsTo xs (λ b. Where (P b) (at b)) n old mid
      → GainsTo xs (λ b. Where (P b) (at b)) (n + 1) old mid
  gains_pass a here none h = gains_skip a here (λ x w. none w.0) h

-- ---- clashes of the elements of a list

-- those of the first n
pub record ClashesTo {X : Type 0} (xs : List X) (R : X → X → Type 0) (at : X → Spot) (n : ℕ)
    (old new : List Spot) : Type 0 where
  pub gains : Gains (LaterTo xs n R at) old new

pub clashes_start : {X : Type 0} {xs : List X} {R : X → X → Type 0} {at : X → Spot} {ys : List Spot}
    → ClashesTo xs R at 0 ys ys
clashes_start = record { gains = gains_none (λ x w. absurd (omega (arith, w.5))) }

module _ {X : Type 0} {xs : List X} {R : X → X → Type 0} {at : X → Spot} {n : ℕ} {old mid : List Spot} where
  -- one more that clashes with none before it
  pub clashes_skip : (c : X) → StandsAt xs n c → (HasEarlier xs n R c → ⊥) → ClashesTo xs R at n old mid
      → ClashesTo xs R at (n + 1) old mid
  clashes_skip c here none h = record { gains = gains_same h.gains (later_skip xs R at n c here none) }

  pub clashes_all : length xs ≤ n → ClashesTo xs R at n old mid → Gains (Later xs R at) old mid
  clashes_all end h = gains_same h.gains (later_done xs R at n end)

  -- one more that clashes
  pub clashes_hit : {new : List Spot} (c : X) → StandsAt xs n c → HasEarlier xs n R c → ClashesTo xs R at n old mid
      → Gains (λ x. x ≡ at c) mid new → ClashesTo xs R at (n + 1) old new
  clashes_hit c here early h k =
      record { gains = gains_same (gains_union h.gains k) (later_clash xs R at n c here early) }

-- what a pass with a table of keys keeps
pub record Passed {X K T : Type 0} (cmp : K → K → Ordering) (show : K → T) (key : X → T) (at : X → Spot) (xs : List X)
    (s : BTreeSet K) (n : ℕ) (old new : List Spot) : Type 0 where
  pub clashes : ClashesTo xs (λ a b. key a ≡ key b) at n old new
  pub seen : Seen cmp show key xs s n

module _ {X K T : Type 0} {cmp : K → K → Ordering} {show : K → T} {key : X → T} {at : X → Spot} {xs : List X}
    {s : BTreeSet K} {n : ℕ} {old mid : List Spot} (t : BTreeSet K) (c : X) (k : K) where
  pub passed_hit : {new : List Spot} → Exact cmp show → StandsAt xs n c → show k ≡ key c → Updates cmp s t k true
      → contains cmp s k ≡ true → Passed cmp show key at xs s n old mid → Gains (λ x. x ≡ at c) mid new
      → Passed cmp show key at xs t (n + 1) old new
  passed_hit exact here e stored found h g = record {
    clashes = clashes_hit c here (grind (arith, (h.seen k).0 found)) h.clashes g;
    seen = seen_more cmp show key xs s t n c k exact here e stored h.seen;
  }

  pub passed_skip : Exact cmp show → StandsAt xs n c → show k ≡ key c → Updates cmp s t k true
      → contains cmp s k ≡ false → Passed cmp show key at xs s n old mid → Passed cmp show key at xs t (n + 1) old mid
  passed_skip exact here e stored fresh h = record {
    clashes = clashes_skip c here (λ w. grind (arith, h.seen k)) h.clashes;
    seen = seen_more cmp show key xs s t n c k exact here e stored h.seen;
  }
