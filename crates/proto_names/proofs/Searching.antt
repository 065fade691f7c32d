-- Occurrences that are found by keys, and halving among occurrences in the order of their names.
use Rattle.proto_names.proofs.Common.{common_steps, ◌≡◌, ◌∙◌, sym, ap, arith, ℕ, suc, ◌+◌, ◌<◌, ◌≤◌, List, [], ◌∷◌, ◌++◌, length, map, get_or, true, false, Bool, Ordering, IsSorted, ◌≢◌, ◌-◌, take, drop, Less, Equal, Contains, ◌↔◌, nat_cmp, is_lt, is_eq, ordering_then, ordering_index, get_or-map, length-map, map_push, get_or-drop, get_or-take, get_or_default, length-take, All-push, hash_of, AreKeysAmong, AreKeysOf, IsKeyAmong, at_key, found_by, hash_in, key_cmp, part_at, Occurrence, AreInOrder, name_cmp, occurrence_cmp, AreInHashOrder, all_of, cases_lt, searchable_from_sorted, name_of, at, blank}
use Rattle.std.specs.Cmp.{IsTotalOrder}
use Rattle.std.specs.List.Sorted.{IsPartitionedBy, IsPartitionPoint, IsNonDecreasingBy}
use Rattle.std.proofs.lemmas.Cmp.{nat_cmp_total, on_total, then_total, tied_itself}
use Rattle.std.proofs.lemmas.List.{length-drop}
use Rattle.proto_names.proofs.Ordered.{end_total, ends_itself, exact_ends, then_then, equal_alike, name_total, order_tells, same_name}
use Rattle.std.proofs.lemmas.Bool.{true≢false}
use Rattle.proto_links.proofs.NameRows.{less_not_equal}
use Rattle.proto_names.specs.Order.{end_cmp}
use Rattle.proto_names.specs.Starts.{IsStart, IsNowhere}

-- ---- the keys of occurrences

-- one more key
pub keys_more : (parts : List (List Occurrence)) (keys : List ℕ) (os : List Occurrence) → AreKeysOf os parts keys
    → (key : ℕ) (new : List ℕ) (more : List Occurrence) → IsKeyAmong parts key → new ≡ keys ++ key ∷ []
    → more ≡ os ++ at_key parts key ∷ [] → AreKeysOf more parts new
keys_more parts keys os so_far key new more here put is = rw (put, is) (record {
  among = All-push (IsKeyAmong parts) keys key so_far.among here;
  all = map_push (at_key parts) keys key ∙ ap (λ os. os ++ at_key parts key ∷ []) so_far.all;
})

-- a part has no more occurrences than all have
pub part_few : (parts : List (List Occurrence)) (k : ℕ) → length (part_at parts k) ≤ length (all_of parts)
part_few (os ∷ parts) (suc k) = grind (arith, common_steps, part_few parts k)
part_few parts k = grind (arith, common_steps)

-- ---- the order of keys

pub key_total : (parts : List (List Occurrence)) → IsTotalOrder (key_cmp parts)
key_total parts =
    let name = on_total (λ (key : ℕ). (at_key parts key).name) end_total in
    let file = on_total (λ (key : ℕ). (at_key parts key).file) nat_cmp_total in
    let place = on_total (λ (key : ℕ). (at_key parts key).place.offset) nat_cmp_total in
    then_total (on_total hash_in nat_cmp_total) (then_total name (then_total file place))

-- what is made of sorted elements is sorted
pub sorted_map : {X Y : Type 0} (f : X → Y) (cmp : Y → Y → Ordering) (xs : List X)
    → IsSorted (λ a b. cmp (f a) (f b)) xs → IsSorted cmp (map f xs)
sorted_map f cmp [] up k d low inside = absurd (omega (arith, inside))
sorted_map f cmp (x ∷ xs) up k d low inside =
    grind (arith, get_or-map f (x ∷ xs) k x d, get_or-map f (x ∷ xs) (k + 1) x d, length-map (x ∷ xs) f, up k x low)

same_order : (parts : List (List Occurrence)) (a b : ℕ) → IsKeyAmong parts a → IsKeyAmong parts b
    → key_cmp parts a b ≡ occurrence_cmp (at_key parts a) (at_key parts b)
same_order parts a b first second = grind (arith, common_steps, then_then)

-- a sort of keys sorts what they find
pub sorted_found : (parts : List (List Occurrence)) (keys : List ℕ) → AreKeysAmong parts keys
    → IsSorted (key_cmp parts) keys → AreInOrder (found_by parts keys)
sorted_found parts keys among up = sorted_map (at_key parts) occurrence_cmp keys (λ k d low inside.
    rw (← same_order parts (get_or keys (k + 1) d) (get_or keys k d) (among (k + 1) d inside) (among k d (omega arith)))
    (up k d low inside))

-- the order of a key by its hash, and of the name that it finds, is that of this name
pub name_order : (parts : List (List Occurrence)) (keys target : List ℕ) (hash k d : ℕ) → k < length keys
    → AreKeysAmong parts keys → hash ≡ hash_of target
    → ordering_then (nat_cmp (hash_in (get_or keys k d)) hash)
    (end_cmp (at_key parts (get_or keys k d)).name target)
    ≡ name_cmp (at_key parts (get_or keys k d)).name target
name_order parts keys target hash k d h among is = grind (arith, common_steps, (among k d h).hashed)

-- ---- tests of keys, and of what they find

module _ (parts : List (List Occurrence)) (keys : List ℕ) (p : ℕ → Bool) (q : Occurrence → Bool)
    (same : (k d : ℕ) → k < length keys → p (get_or keys k d) ≡ q (at_key parts (get_or keys k d))) where
  at_map : (k d : ℕ) (o : Occurrence) → k < length keys → q (get_or (found_by parts keys) k o) ≡ p (get_or keys k d)
  at_map k d o h = ap q (get_or-map (at_key parts) keys k d o h) ∙ sym (same k d h)

  pub parted_keys : IsPartitionedBy q (found_by parts keys) → IsPartitionedBy p keys
  parted_keys parted i j d h inside t =
      let of = parted i j (at_key parts d) h in
      grind (arith, at_map i d (at_key parts d), at_map j d (at_key parts d), length-map keys (at_key parts), of)

  pub point_found : (n : ℕ) → n ≤ length keys → IsPartitionPoint (λ key. p key ≡ true) (λ key. p key ≡ false) keys n
      → IsPartitionPoint (λ o. q o ≡ true) (λ o. q o ≡ false) (found_by parts keys) n
  point_found n bound point = (
    λ k o a b. grind (arith, at_map k 0 o, point.0 k 0 a b),
    λ k o a b. grind (arith, length-map keys (at_key parts), at_map k 0 o, point.1 k 0 a),
  )

-- ---- halving

-- a name is equal to itself
itself_equal : (xs ys : List ℕ) → xs ≡ ys → name_cmp xs ys ≡ Equal
itself_equal xs ys e = rw (← e) (tied_itself name_total xs)

-- what comes before a name stands before a position
abbrev pub IsLessPoint : List ℕ → List Occurrence → ℕ → Type 0
IsLessPoint target = IsPartitionPoint (λ e. name_cmp (name_of e) target ≡ Less)
    (λ e. name_cmp (name_of e) target ≢ Less)

module _ (os : List Occurrence) (target : List ℕ) (up : AreInHashOrder os) where
  rises : IsNonDecreasingBy (λ e. ordering_index (name_cmp (name_of e) target)) os
  rises = searchable_from_sorted name_total name_of os target up

  pub parted_less : IsPartitionedBy (λ e. is_lt (name_cmp (name_of e) target)) os
  parted_less i j d h inside t = grind (arith, order_tells, rises i j d h inside)

  pub parted_equal : ((k : ℕ) (d : Occurrence) → k < length os → name_cmp (name_of (get_or os k d)) target ≢ Less)
      → IsPartitionedBy (λ e. is_eq (end_cmp (name_of e) target)) os
  parted_equal behind i j d h inside t =
      grind (arith, order_tells, equal_alike, rises i j d h inside, behind i d (omega arith))

pub less_point : (os : List Occurrence) (target : List ℕ) (n : ℕ)
    → IsPartitionPoint (λ e. is_lt (name_cmp (name_of e) target) ≡ true)
    (λ e. is_lt (name_cmp (name_of e) target) ≡ false) os n
    → IsLessPoint target os n
less_point os target n p = grind (arith, common_steps, order_tells)

pub equal_point : (os : List Occurrence) (target : List ℕ) (n : ℕ)
    → IsPartitionPoint (λ e. is_eq (end_cmp (name_of e) target) ≡ true)
    (λ e. is_eq (end_cmp (name_of e) target) ≡ false) os n
    → IsPartitionPoint (λ e. name_of e ≡ target) (λ e. name_of e ≢ target) os n
equal_point os target n p = grind (arith, common_steps, true≢false, exact_ends, ends_itself)

pub named_at : (os : List Occurrence) (k : ℕ) (d : Occurrence) → k < length os
    → (at os k).name ≡ name_of (get_or os k d)
named_at os k d h = ap name_of (get_or_default os k blank d h)

-- where the first that does not come before a name has another one, none has it
pub nowhere_is : (os : List Occurrence) (target : List ℕ) (n : ℕ) → AreInHashOrder os → IsLessPoint target os n
    → (n < length os → (at os n).name ≢ target) → IsNowhere os target
nowhere_is os target n up p other k within same =
    let rise = rises os target up n k blank in
    let equal = itself_equal (name_of (at os k)) target same in
    let first = same_name (name_of (at os n)) target in
    grind (arith, order_tells, cases_lt k n, p.0 k blank, p.1 n blank, rise, equal, first, other)

-- where the second has another name than the first, the first is alone
pub one_point : (os : List Occurrence) (target : List ℕ) → AreInHashOrder os
    → ((k : ℕ) (d : Occurrence) → k < length os → name_cmp (name_of (get_or os k d)) target ≢ Less)
    → ((d : Occurrence) → name_of (get_or os 0 d) ≡ target)
    → (1 < length os → (at os 1).name ≢ target)
    → IsPartitionPoint (λ e. name_of e ≡ target) (λ e. name_of e ≢ target) os 1
one_point os target up behind first second = (
  λ k d a b. (let zeroth : k ≡ 0 = omega arith in rw zeroth (first d)),
  λ k d a b e. (let equal = itself_equal (name_of (at os k)) target (named_at os k d b ∙ e) in
      let rise = rises os target up 1 k blank a b in
      second (omega arith) (same_name _ _ (grind (arith, order_tells, rise, behind 1 blank (omega arith), equal)))),
)

-- where a name begins, all before it come before it, and the run of the name
module _ (os : List Occurrence) (target : List ℕ) (start : ℕ) (up : AreInHashOrder os)
    (is : IsStart os target start) where
  equal : (d : Occurrence) → name_cmp (name_of (get_or os start d)) target ≡ Equal
  equal d = itself_equal _ _ (sym (named_at os start d is.within) ∙ is.named)

  differs : (d : Occurrence) → 0 < start → name_cmp (name_of (get_or os (start - 1) d)) target ≢ Equal
  differs d some e = is.begins some (named_at os (start - 1) d (omega arith) ∙ same_name _ _ e ∙ sym is.named)

  start_point : IsLessPoint target os start
  start_point = (
    λ k d a b. (let last = rises os target up (start - 1) start d (omega arith) is.within in
        grind (arith, order_tells, last, rises os target up k (start - 1) d, equal d, differs d)),
    λ k d a b. grind (arith, order_tells, rises os target up start k d a b, equal d),
  )

  pub start_behind : (k : ℕ) (d : Occurrence) → k < length (drop start os)
      → name_cmp (name_of (get_or (drop start os) k d)) target ≢ Less
  start_behind k d inside = grind (arith, common_steps, get_or-drop, length-drop, inside, start_point.1 (start + k) d)

  module _ (m : ℕ) (g : m ≤ length (drop start os))
      (same : IsPartitionPoint (λ e. name_of e ≡ target) (λ e. name_of e ≢ target) (drop start os) m) where
    run_found : (e : Occurrence) → Contains (take m (drop start os)) e → Contains os e × (name_of e ≡ target)
    run_found e (k, inside, at) =
        grind (arith, common_steps, get_or-drop, get_or-take, length-drop, length-take, inside, is.within)

    run_all : (e : Occurrence) → Contains os e → name_of e ≡ target → Contains (take m (drop start os)) e
    run_all e (j, inside, at) name =
        let less = start_point.0 j e (omega arith) in
        let over : start ≤ j = grind (arith, cases_lt j start, less, less_not_equal, itself_equal) in
        let here = get_or-drop start os (j - start) e in
        let low : j - start < m =
        grind (arith, cases_lt (j - start) m, same.1 (j - start) e, length-drop start os, here) in
        let front = get_or-take m (drop start os) (j - start) e low in
        (j - start, grind (arith, length-take m (drop start os)), grind (arith, front, here))

    pub run_is : (e : Occurrence) → Contains (take m (drop start os)) e ↔ (Contains os e × (name_of e ≡ target))
    run_is e = (run_found e, λ w. run_all e w.0 w.1)
