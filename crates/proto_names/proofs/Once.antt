-- What occurs once: the full name of an element; and what is repeated, with the first of it.
use Rattle.proto_names.proofs.Common.{common_steps, ◌≡◌, ℕ, List, ◌⊎◌, arith, refl, Some, slice_get, ap, ◌≢◌, Bool, ◌+◌, ◌-◌, ◌<◌, ◌≤◌, length, Contains, false, Option, None, IsSomeAnd, MatchOption, cases_eq, cases_lt, IsPermutation-sym, gets, get_or_from_slice_get, slice_get-get_or, slice_get_within, Index, IsNoLater, IsPackage, NoneTwice, Occurrence, IsTwice, AreInOrder, IsEarlierOf, NoLater, location_of, IsFirstOf, IsRun, Repeats, at, blank, Location}
use Rattle.proto_base.specs.declared.limits.Limits.{Limits}
use Rattle.proto_names.specs.Index.{IndexesNames}
use Rattle.proto_names.specs.Repeated.{AreDeclaredOnce, IsFirstTwice}
use Rattle.proto_names.proofs.Built.{twice_moved}
use Rattle.proto_names.proofs.Ordered.{places_in_order, names_between}

-- ---- the full name of an element

-- one of two is no later than the other
one_no_later : (o p : Occurrence) → IsNoLater o p ⊎ IsNoLater p o
one_no_later o p = grind (arith, common_steps)

-- two of one name, at two positions, would clash
alone : (os : List Occurrence) (i j : ℕ) (o p : Occurrence) → NoneTwice os → slice_get os i ≡ Some o
    → slice_get os j ≡ Some p
    → o.name ≡ p.name → (IsPackage o → ⊥) → i ≡ j
alone os i j o p none first second same element = grind (arith, cases_eq i j, one_no_later o p, none p, none o)

pub declared_once : (index : Index) (count : ℕ) (names : List Occurrence) (limits : Limits)
    → IndexesNames count names limits index → AreDeclaredOnce index
declared_once index count names limits is =
    let os = index.occurrences in
    let back = IsPermutation-sym names os is.all in
    let none : NoneTwice os = λ b twice. is.once b (twice_moved os names back b twice) in
    record {
      one = λ o p here there same element. grind (arith, gets, alone os here.0 there.0 o p none);
      once = λ i j o first second. alone os i j o o none first second refl;
    }

-- ---- runs

pub run_new : (os : List Occurrence) (k : ℕ) → AreInOrder os → k < length os
    → (0 < k → (at os (k - 1)).name ≢ (at os k).name) → IsRun os k k k false
run_new os k up below other =
    let first : (i : ℕ) → i < k → (at os i).name ≢ (at os k).name = λ i h e.
    grind (arith, names_between os up i (k - 1) k (omega arith) (omega arith) below e) in
    grind (arith, first)

-- a name goes on with that of what stands before it
pub run_longer : (os : List Occurrence) (k start : ℕ) (has_element : Bool) → 0 < k
    → (at os (k - 1)).name ≡ (at os k).name → IsRun os (k - 1) (k - 1 + 1) start has_element
    → IsRun os k k start has_element
run_longer os k start has_element some same run =
    let size : k - 1 + 1 ≡ k = omega (arith, some) in
    grind (arith, rw size at run)

-- ---- repeated, and twice

pub repeats_twice : (os : List Occurrence) (k : ℕ) → AreInOrder os → k < length os → Repeats os k → IsTwice os (at os k)
repeats_twice os k up below (i, low, same, other) =
    grind (arith, slice_get-get_or os i blank, slice_get-get_or os k blank, places_in_order os up i k)

-- of two that clash the one behind the other repeats it, and is no later than what occurs twice
twice_repeats : (os : List Occurrence) (b : Occurrence) → IsTwice os b
    → (k : ℕ) × (k < length os) × Repeats os k × IsNoLater (at os k) b
twice_repeats os b (a, (i, j, apart, first, second), clash) =
    let here = get_or_from_slice_get os i a blank first in
    let there = get_or_from_slice_get os j b blank second in
    grind (arith, cases_lt i j, here, there, slice_get_within os i a first, slice_get_within os j b second)

-- ---- the first of what is known

-- it is one of some, and no later than what is known
pub record IsFirstKnown (Among Known : Location → Type 0) (first : Option Location) : Type 0 where
  pub found : (l : Location) → first ≡ Some l → Among l
  pub least : (l : Location) → Known l → IsSomeAnd first (λ a. NoLater a l)

module _ {Among Known : Location → Type 0} {known : Option Location} (is : IsFirstKnown Among Known known)
    (More Knows : Location → Type 0) (kept : (l : Location) → Among l → More l) where
  pub first_more : (location first : Location) → IsEarlierOf known location first → More location
      → ((l : Location) → Knows l → Known l ⊎ (location ≡ l)) → IsFirstKnown More Knows (Some first)
  first_more location first earlier here split = record {
    found = λ l e. grind (arith, earlier.one, is.found l, kept l);
    least = λ l w. grind (arith, split l w, earlier.left l, earlier.right l, is.least l);
  }

  pub first_kept : ((l : Location) → Knows l → Known l) → IsFirstKnown More Knows known
  first_kept old = grind (arith, kept, is, old)

-- among those that are listed
abbrev pub IsFirstListed : List (Option Location) → Option Location → Type 0
IsFirstListed known = IsFirstKnown (λ l. Contains known (Some l)) (λ l. Contains known (Some l))

pub first_listed : (known : List (Option Location)) (first : Option Location) → IsFirstListed known first
    → IsFirstOf known first
first_listed known None is = is.least
first_listed known (Some f) is = record { among = is.found f refl; least = is.least }

-- what is repeated among the first n, as a function tells of it
abbrev pub KnownTo : {X : Type 0} → (Occurrence → X) → List Occurrence → ℕ → X → Type 0
KnownTo f os n x = (k : ℕ) × (k < n) × Repeats os k × (f (at os k) ≡ x)

pub known_split : {X : Type 0} (f : Occurrence → X) (os : List Occurrence) (n : ℕ) (x : X) → KnownTo f os (n + 1) x
    → KnownTo f os n x ⊎ (Repeats os n × (f (at os n) ≡ x))
known_split f os n x (k, below, repeats, is) = grind (arith, cases_lt k n)

abbrev pub Passed : List Occurrence → ℕ → Option Location → Type 0
Passed os n = IsFirstKnown (λ l. (b : Occurrence) × IsTwice os b × (location_of b ≡ l)) (KnownTo location_of os n)

pub passed_all : (os : List Occurrence) (n : ℕ) (known : Option Location) → length os ≤ n → Passed os n known
    → MatchOption known (NoneTwice os) (λ s. IsFirstTwice os s.file s.place)
passed_all os n None whole passed = λ b twice. (let (k, inside, repeats, behind) = twice_repeats os b twice in
    passed.least _ (k, omega (arith, inside), repeats, refl))
passed_all os n (Some s) whole passed =
    let (b, twice, is) = passed.found s refl in
    let least : (c : Occurrence) → IsTwice os c → IsNoLater b c = λ c other.
    (let (k, inside, repeats, behind) = twice_repeats os c other in
    let known = passed.least (location_of (at os k)) (k, omega (arith, inside), repeats, refl) in
    let before = rw (← is) at known in grind arith) in
    (b, record { among = twice; least = least }, ap (λ (l : Location). l.file) is, ap (λ (l : Location). l.place) is)
