-- Names that are not taken.
use Rattle.proto_lower.proofs.Common.{◌≡◌, ◌≤◌, ◌<◌, ◌+◌, ℕ, zero, suc, Bool, true, false, List, [], ◌∷◌, ◌++◌, sym, refl, length, arith, subst, if◌then◌else◌, ◌||◌, String, prefix_len, range_with_len, bytes_eq, BTreeSet, contains_text, nat_cmp, list_any-append, nat_tests, first_free, with_underscore, behind_letters, begins_as_made, HoldsTaken}
use Rattle.std.specs.Set.{is_member}
use Rattle.std.specs.BTreeSet as sorted
use Rattle.std.specs.declared.alloc.Global.{Global}
use Rattle.std.specs.String.{string_bytes, string_cmp}
use Rattle.std.specs.Cmp.Lexicographic.{slice_cmp}
use Rattle.std.specs.Bool.{nat_le}
use Rattle.std.proofs.lemmas.Map.Text.{btree_set_updates_text}
use Rattle.std.proofs.lemmas.Slice.Eq.{bytes_eq-Decides}
use Rattle.std.proofs.Math.Bool.{or-false}

swapped : (xs ys : List ℕ) → bytes_eq xs ys ≡ bytes_eq ys xs
swapped xs ys = grind (arith, bytes_eq-Decides xs ys, bytes_eq-Decides ys xs)

among_more : (names : List (List ℕ)) (one name : List ℕ)
    → is_member bytes_eq (names ++ one ∷ []) name ≡ (is_member bytes_eq names name || bytes_eq name one)
among_more names one name = grind (arith, or-false, list_any-append (bytes_eq name) names (one ∷ []))

-- a name that does not begin like those that are made is none of them
pub taken_other : (names : List (List ℕ)) (one : List ℕ) (set : BTreeSet (String Global)) → begins_as_made one ≡ false
    → HoldsTaken names set
    → HoldsTaken (names ++ one ∷ []) set
taken_other names one set differs members = record {
  members = λ name begins. let at = members.members name begins in
      let more = among_more names one name in
      let same = bytes_eq-Decides name one in
      grind arith;
}

pub taken_more : (names : List (List ℕ)) (one : List ℕ) (key : String Global) (old new : BTreeSet (String Global))
    → string_bytes key ≡ one
    → sorted.Updates string_cmp old new key true → HoldsTaken names old → HoldsTaken (names ++ one ∷ []) new
taken_more names one key old new same updates members = record {
  members = λ name begins. let at = members.members name begins in
      let u = btree_set_updates_text one old new true
      (subst (λ (bs : List ℕ). sorted.UpdatesBy string_cmp (λ k. slice_cmp nat_cmp bs (string_bytes k)) old new true)
      same updates) name in
      grind (arith, among_more names one name, swapped one name);
}

underscore_begins : (field : List ℕ) → begins_as_made (with_underscore field) ≡ true
underscore_begins field = grind arith

-- one step of the search
letter_behind : (count : ℕ) (name : List ℕ) → behind_letters count (88 ∷ name) ≡ behind_letters (1 + count) name
letter_behind zero name = refl
letter_behind (suc count) name = grind (arith, letter_behind count name)

tried_later : (test : List ℕ → Bool) (from most : ℕ) (name : List ℕ)
    → prefix_len (λ count. test (behind_letters count name)) (range_with_len (from + 1) most)
    ≡ prefix_len (λ count. test (behind_letters count (88 ∷ name))) (range_with_len from most)
tried_later test from zero name = refl
tried_later test from (suc most) name = grind (arith, letter_behind from name, tried_later test (from + 1) most name)

pub free_stops : (test : List ℕ → Bool) (left : ℕ) (name : List ℕ) → test name ≡ false
    → first_free test left name ≡ name
free_stops test left name free = grind arith

free_later : (test : List ℕ → Bool) (left : ℕ) (name : List ℕ) → test name ≡ true
    → first_free test (suc left) name ≡ first_free test left (88 ∷ name)
free_later test left name met = rw (met, tried_later test 0 left name) (sym (letter_behind
    (prefix_len (λ count. test (behind_letters count (88 ∷ name))) (range_with_len 0 left)) name))

pub free_goes : (test : List ℕ → Bool) (left : ℕ) (name longer : List ℕ) → test name ≡ true → longer ≡ 88 ∷ name
    → first_free test (suc left) name ≡ first_free test left longer
free_goes test left name longer met made = cc (free_later test left name met)

-- tests that agree about what can be tried find the same name
pub free_same : (p q : List ℕ → Bool) (most : ℕ) (name : List ℕ)
    → ((n : List ℕ) → begins_as_made n ≡ true → p n ≡ q n) → begins_as_made name ≡ true
    → first_free p most name ≡ first_free q most name
free_same p q zero name agree begins = refl
free_same p q (suc most) name agree begins =
    grind (
      arith,
      agree name begins,
      free_later p most name,
      free_later q most name,
      free_stops p (suc most) name,
      free_stops q (suc most) name,
      free_same p q most (88 ∷ name) agree refl,
    )

-- how many of the names are this long or longer
abbrev pub longer : ℕ → List (List ℕ) → ℕ
longer n [] = 0
longer n (t ∷ ts) = (if nat_le n (length t) then 1 else 0) + longer n ts

longer_more : (n : ℕ) (ts : List (List ℕ)) → longer (n + 1) ts ≤ longer n ts
longer_more n [] = omega arith
longer_more n (t ∷ ts) = let rest = longer_more n ts in grind (arith, nat_tests)

longer_all : (n : ℕ) (ts : List (List ℕ)) → longer n ts ≤ length ts
longer_all n [] = omega arith
longer_all n (t ∷ ts) = let rest = longer_all n ts in grind (arith, nat_tests)

longer_past : (name : List ℕ) (ts : List (List ℕ)) → is_member bytes_eq ts name ≡ true
    → longer (length name + 1) ts < longer (length name) ts
longer_past name [] among = cc
longer_past name (t ∷ ts) among =
    grind (arith, nat_tests, bytes_eq-Decides name t, longer_more (length name) ts, longer_past name ts)

-- as many names as are taken are enough to meet one that is not
free_after : (taken : List (List ℕ)) (most : ℕ) (name : List ℕ) → longer (length name) taken ≤ most
    → is_member bytes_eq taken (first_free (is_member bytes_eq taken) most name) ≡ false
free_after taken zero name enough = grind (arith, longer_past name taken)
free_after taken (suc most) name enough =
    grind (
      arith,
      longer_past name taken,
      free_later (is_member bytes_eq taken) most name,
      free_stops (is_member bytes_eq taken) (suc most) name,
      free_after taken most (88 ∷ name),
    )

pub free_is_free : (taken : List (List ℕ)) (name : List ℕ)
    → is_member bytes_eq taken (first_free (is_member bytes_eq taken) (length taken) name) ≡ false
free_is_free taken name = free_after taken (length taken) name (longer_all (length name) taken)

-- a search by a set of the names that are taken
pub found_by_set : (taken : List (List ℕ)) (set : BTreeSet (String Global)) (most : ℕ) (start field found : List ℕ)
    → HoldsTaken taken set → most ≡ length taken
    → start ≡ with_underscore field → found ≡ first_free (contains_text set) most start
    → found ≡ first_free (is_member bytes_eq taken) (length taken) (with_underscore field)
found_by_set taken set most start field found members same same_start by_set =
    grind (arith, free_same, underscore_begins)
