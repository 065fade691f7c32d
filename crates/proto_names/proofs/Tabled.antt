-- Occurrences in shares: together they are all, and what is twice is twice in one of them.
use Rattle.proto_names.proofs.Common.{common_steps, ◌≡◌, ◌∙◌, refl, ℕ, zero, suc, ◌-◌, ◌<◌, Bool, true, not, List, [], ◌∷◌, ◌++◌, length, map, get_or, arith, ◌==◌, All, Contains, IsPermutation, MatchOption, Option, None, Some, filter, flat_map, slice_get, nat_tests, length-map, All-filter, filter_passes, All-permutation, IsPermutation-append, IsPermutation-filter_both, IsPermutation-refl, IsPermutation-sym, IsPermutation-trans, mod_below, gets, same_Some, slice_get-map, slice_get_within, take-append_seam, found_in, get_take, hash_of, services_of, Occurrence, IsNoLater, IsTwice, NoneTwice, NoLater, location_of, AreAllShares, AreInShares, AreSharesOf, IsEarliest, IsSortedOf, all_of, share_at, services_in, share_of, table_of, twice_of, Location}
use Rattle.std.proofs.lemmas.List.{append-nil}
use Rattle.share_work.specs.Shares.{GivesItems}
use Rattle.share_work.proofs.Sums.{contains_at, in_flat, in_map, of_flat, of_map as of_mapped}
use Rattle.share_work.proofs.Together.{get_there}
use Rattle.proto_names.specs.Repeated.{IsFirstTwice}
use Rattle.proto_names.specs.declared.share.Share.{Share}
use Rattle.proto_names.specs.declared.sorted.SortedShare.{SortedShare}
use Rattle.proto_names.proofs.Built.{twice_moved}

-- ---- positions

stands : {X : Type 0} (xs : List X) (x : X) → Contains xs x → (k : ℕ) × (slice_get xs k ≡ Some x)
stands xs x within = grind (arith, gets)

-- what stands in a map is made of what stands there
pub of_map : {X Y : Type 0} (f : X → Y) (xs : List X) (k : ℕ) (y : Y) → slice_get (map f xs) k ≡ Some y
    → (x : X) × (slice_get xs k ≡ Some x) × (f x ≡ y)
of_map f xs k y at = grind (arith, slice_get-map f xs k, gets)

-- all of a list are taken where none are left
pub all_taken : {X : Type 0} (taken rest xs : List X) → taken ++ rest ≡ xs → length rest ≡ 0 → taken ≡ xs
all_taken taken rest xs whole none = grind (arith, common_steps, append-nil)

-- ---- together they are all

filter_later : (key : Occurrence → ℕ) (j : ℕ) (os : List Occurrence)
    → filter (λ o. key o - 1 == j) (filter (λ o. not (key o == 0)) os) ≡ filter (λ o. key o == suc j) os
filter_later key j [] = refl
filter_later key j (o ∷ os) = grind (arith, nat_tests, filter_later key j os)

-- tables of the occurrences that a key has at 0, 1 and so on
joined : (key : Occurrence → ℕ) (os : List Occurrence) (tables : List (List Occurrence))
    → All (λ o. key o < length tables) os
    → ((j : ℕ) (t : List Occurrence) → slice_get tables j ≡ Some t → IsPermutation (filter (λ o. key o == j) os) t)
    → IsPermutation os (all_of tables)
joined key [] [] within each = IsPermutation-refl []
joined key (o ∷ os) [] within each = absurd (omega (arith, within 0 o (omega arith)))
joined key os (t ∷ ts) within each =
    let p : Occurrence → Bool = λ o. key o == 0 in
    let q : Occurrence → Bool = λ o. not (key o == 0) in
    let later : All (λ o. key o - 1 < length ts) (filter q os) = λ i d h.
    (let below = All-filter q (λ o. key o < length (t ∷ ts)) os within i d h in
    let other = filter_passes q os i d h in grind (arith, nat_tests)) in
    IsPermutation-trans os (filter p os ++ filter q os) (t ++ all_of ts) (IsPermutation-filter_both p q (λ o. refl) os)
    (IsPermutation-append (filter p os) t (filter q os) (all_of ts) (each 0 t refl)
    (joined (λ o. key o - 1) (filter q os) ts later (λ j u at. rw (filter_later key j os) (each (suc j) u at))))

-- ---- what has a name is in the table of its share

pub among_all : (tables : List (List Occurrence)) (k : ℕ) (os : List Occurrence) (o : Occurrence)
    → slice_get tables k ≡ Some os → Contains os o
    → Contains (all_of tables) o
among_all tables k os o at here = in_flat (λ os. os) tables os o (contains_at tables k os at) here

pub among_one : (tables : List (List Occurrence)) (k : ℕ) (os : List Occurrence) (o : Occurrence) → AreInShares tables
    → slice_get tables k ≡ Some os
    → share_at (length tables) o ≡ k → Contains (all_of tables) o → Contains os o
among_one tables k os o shared at key in_all =
    let (t, in_tables, here) = of_flat (λ os. os) tables o in_all in
    grind (arith, shared.each, gets)

-- ---- what is twice is twice among those of one share

module _ (os : List Occurrence) (p : Occurrence → Bool) where
  abbrev others : List Occurrence
  others = filter (λ o. not (p o)) os

  parts : IsPermutation os (filter p os ++ others)
  parts = IsPermutation-filter_both p (λ o. not (p o)) (λ o. refl) os

  twice_passed : (b : Occurrence) → IsTwice (filter p os) b → IsTwice os b
  twice_passed b (a, (i, j, apart, first, second), clash) =
      let front = rw (take-append_seam (filter p os) others)
      at (get_take (length (filter p os)) (filter p os ++ others)) in
      let inside = slice_get_within (filter p os) in
      let twice : IsTwice (filter p os ++ others) b =
      grind (arith, front i, front j, inside i a first, inside j b second) in
      twice_moved _ os (IsPermutation-sym os _ parts) b twice

  passing : (k : ℕ) (o : Occurrence) → p o ≡ true → slice_get (filter p os ++ others) k ≡ Some o
      → slice_get (filter p os) k ≡ Some o
  passing k o is at =
      grind (arith, found_in (filter p os) others k o at, filter_passes (λ o. not (p o)) os, gets)

  twice_passing : (b : Occurrence) → ((o : Occurrence) → o.name ≡ b.name → p o ≡ true) → IsTwice os b
      → IsTwice (filter p os) b
  twice_passing b pass twice =
      let (a, (i, j, apart, first, second), clash) = twice_moved os _ parts b twice in
      (a, (i, j, apart, passing i a (pass a clash.same) first, passing j b (pass b refl) second), clash)

no_later : (b c : Occurrence) (l m : Location) → b.file ≡ l.file → b.place ≡ l.place → NoLater l m
    → NoLater m (location_of c) → IsNoLater b c
no_later b c l m file place before behind = grind arith

module _ (os : List Occurrence) (shares : List SortedShare) (are : AreSharesOf os shares) where
  abbrev tables : List (List Occurrence)
  tables = map table_of shares

  many : length tables ≡ length shares
  many = length-map shares table_of

  pub in_shares : AreInShares tables
  in_shares = record {
    some = rw many are.some;
    each = λ k t at i d h.
        (let (s, stands, is) = of_map table_of shares k t at in
        let told = filter_passes (λ o. share_at (length shares) o == k) os in
        let passes = All-permutation (λ o. (share_at (length shares) o == k) ≡ true) _ s.table (are.each k s stands).all
        told i d in grind (arith, nat_tests, many));
  }

  pub all_shares : IsPermutation os (all_of tables)
  all_shares = joined (share_at (length shares)) os tables
      (λ i d h. omega (arith, mod_below (hash_of (get_or os i d).name) (length shares) are.some, many))
      (λ j t at. (let (s, stands, is) = of_map table_of shares j t at in rw (← is) (are.each j s stands).all))

  -- the services of the tables
  pub all_services : flat_map services_in shares ≡ services_of (all_of tables)
  all_services = each shares (λ k s at. (are.each k s at).services) where
    each : (ss : List SortedShare)
        → ((k : ℕ) (s : SortedShare) → slice_get ss k ≡ Some s → services_in s ≡ services_of s.table)
        → flat_map services_in ss ≡ services_of (all_of (map table_of ss))
    each [] of = refl
    each (s ∷ ss) of = grind (arith, common_steps, of 0 s refl, each ss (λ k. of (suc k)))

  -- what is twice comes no earlier than the first of its share
  in_share : (b : Occurrence) → IsTwice os b
      → (l : Location) × Contains (map twice_of shares) (Some l) × NoLater l (location_of b)
  in_share b twice =
      let n = length shares in
      let (s, at) = get_there shares (share_at n b) (mod_below (hash_of b.name) n are.some) in
      let sorted = are.each (share_at n b) s at in
      let pass : (o : Occurrence) → o.name ≡ b.name → (share_at n o == share_at n b) ≡ true =
      λ o same. rw same (grind (arith, nat_tests)) in
      let here = twice_moved (share_of n (share_at n b) os) s.table sorted.all b (twice_passing os _ b pass twice) in
      of s here s.twice sorted.twice (in_map twice_of shares s (contains_at shares (share_at n b) s at))
    where
      of : (s : SortedShare) → IsTwice s.table b → (t : Option Location)
          → MatchOption t (NoneTwice s.table) (λ l. IsFirstTwice s.table l.file l.place)
          → Contains (map twice_of shares) t
          → (l : Location) × Contains (map twice_of shares) (Some l) × NoLater l (location_of b)
      of s here None none among = absurd (none b here)
      of s here (Some l) (d, first, file, place) among =
          (l, among, (let behind = first.least b here in grind arith))

  pub none_twice : ((l : Location) → Contains (map twice_of shares) (Some l) → ⊥) → NoneTwice os
  none_twice none b twice = let (l, known, behind) = in_share b twice in none l known

  pub first_twice_of : (l : Location) → IsEarliest (map twice_of shares) l → IsFirstTwice os l.file l.place
  first_twice_of l earliest =
      let (s, among, is) = of_mapped twice_of shares (Some l) earliest.among in
      let (k, at) = stands shares s among in
      let sorted = are.each k s at in
      let (b, first, file, place) = rw is at sorted.twice in
      let here = twice_moved s.table (share_of (length shares) k os) (IsPermutation-sym _ _ sorted.all) b first.among in
      let least : (c : Occurrence) → IsTwice os c → IsNoLater b c = λ c twice.
      (let (m, known, behind) = in_share c twice in no_later b c l m file place (earliest.least m known) behind) in
      (b, record { among = twice_passed os _ b here; least = least }, file, place)

-- ---- what workers give

pub shares_given : (count : ℕ) (os : List Occurrence) (shares : List Share) (outs : List SortedShare) → 0 < count
    → AreAllShares count shares
    → GivesItems (λ i s out. IsSortedOf (share_of s.count s.position os) out) 0 shares outs → AreSharesOf os outs
shares_given count os shares outs some all given =
    let many : length outs ≡ count = given.0 ∙ all.0 in
    record {
      some = omega (arith, many, some);
      each = λ k out at.
          (let (s, stands) = get_there shares k (omega (arith, given.0, slice_get_within outs k out at)) in
          let same = all.1 k s stands in
          rw (same.0, same.1, ← many) at (given.1 k s out stands at));
    }

pub alone_given : (os : List Occurrence) (s : SortedShare) → IsSortedOf (share_of 1 0 os) s → AreSharesOf os (s ∷ [])
alone_given os s is = record { some = omega arith; each = each } where
  each : (k : ℕ) (t : SortedShare) → slice_get (s ∷ []) k ≡ Some t → IsSortedOf (share_of 1 k os) t
  each zero t at = rw (same_Some s t at) at is
  each (suc k) t at = cc
