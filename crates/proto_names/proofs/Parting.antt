-- The last parts of names, and the bits that tell of them.
use Rattle.proto_names.proofs.Common.{common_steps, ◌≡◌, ◌≢◌, ◌∙◌, ap, sym, refl, ℕ, ◌+◌, ◌-◌, ◌*◌, ◌<◌, ◌≤◌, List, [], ◌∷◌, ◌++◌, length, take, drop, get_or, arith, inl, inr, append_assoc, get_or-append_right, take-append_seam, drop-append_seam, cases_order, flat_map-append, all_of, take_more, get_or-take, get_or-drop, get_or_default, length-drop, add-one, split_at, subst, nat_tests, Contains, Contains-push_cases, IsTrue, Bits, HasInserted, columns_of, scoped, hash_of, rolling_hash, Occurrence, is_scope, at, blank}
use Rattle.std.proofs.lemmas.List.{append-nil, get_or_at}
use Rattle.std.proofs.lemmas.List.Elements.{Contains-append_cases}
use Rattle.std.proofs.lemmas.List.Sums.{fails_before_first}
use Rattle.std.specs.List.{position_or_len}
use Rattle.proto_names.specs.Hashes.{spread}
use Rattle.proto_names.specs.ScopeParts.{HasNoDot, IsParted, TellsParts, column_of, tells_part}
use Rattle.proto_names.specs.Scopes.{is_dot}
use Rattle.proto_names.specs.Steps.{before, first_part}
use Rattle.proto_names.proofs.EntryLemmas.{scoped_split}
use Rattle.proto_names.proofs.Starting.{hash_below, slot_below, spread_below}

-- ---- a name has one last part

dot_in : (n b p scope q : List ℕ) → n ≡ b ++ p → HasNoDot p → n ≡ (scope ++ 46 ∷ []) ++ q
    → length b < length scope + 1 → length scope - length b < length p → ⊥
dot_in n b p scope q whole none dotted less within =
    let k = length scope in
    let here : get_or n k 0 ≡ 46 = rw (dotted, append_assoc scope (46 ∷ []) q) (get_or_at scope 46 q 0 k refl) in
    let there : get_or n k 0 ≡ get_or p (k - length b) 0 =
    rw whole (get_or-append_right b p k 0 (omega (arith, less))) in
    none (k - length b) 0 within (sym there ∙ here)

not_shorter : (n b p c q : List ℕ) → IsParted n b p → IsParted n c q → length b < length c → ⊥
not_shorter n b p c q one other less = elim other.dotted [
  | inl none ↦ absurd (omega (arith, ap length none, less))
  | inr (scope, dot) ↦
      let whole : n ≡ (scope ++ 46 ∷ []) ++ q = rw dot at other.whole in
      let lengths : length b + length p ≡ length scope + 1 + length q =
      grind (arith, common_steps, ap length one.whole, ap length whole) in
      dot_in n b p scope q one.whole one.last whole (grind (arith, common_steps, ap length dot))
      (grind (arith, common_steps, ap length dot))
]

pub parted_once : (n b p c q : List ℕ) → IsParted n b p → IsParted n c q → (b ≡ c) × (p ≡ q)
parted_once n b p c q one other =
    let same : length b ≡ length c =
    grind (arith, cases_order (length b) (length c), not_shorter n b p c q one other, not_shorter n c q b p other one) in
    let both : b ++ p ≡ c ++ q = sym one.whole ∙ other.whole in (
      sym (take-append_seam b p) ∙ ap (take (length b)) both ∙ ap (λ k. take k (c ++ q)) same ∙ take-append_seam c q,
      sym (drop-append_seam b p) ∙ ap (drop (length b)) both ∙ ap (λ k. drop k (c ++ q)) same ∙ drop-append_seam c q,
    )

-- ---- how names are parted

pub parted_scoped : (c part : List ℕ) → HasNoDot part → IsParted (scoped c part) (scoped c []) part
parted_scoped [] part none = record { whole = refl; last = none; dotted = inl refl }
parted_scoped (x ∷ xs) part none =
    record { whole = sym (append_assoc (x ∷ xs) (46 ∷ []) part); last = none; dotted = inr (x ∷ xs, refl) }

pub parted_at_dot : (c front part : List ℕ) → HasNoDot part
    → IsParted (scoped c (front ++ 46 ∷ part)) (scoped c (front ++ 46 ∷ [])) part
parted_at_dot c front part none = record {
  whole = scoped_split c (front ++ 46 ∷ part) (front ++ 46 ∷ []) part (sym (append_assoc front (46 ∷ []) part));
  last = none;
  dotted = inr (scoped c front, scoped_split c (front ++ 46 ∷ []) front (46 ∷ []) refl);
}

-- the bytes behind the last dot of an own name
plain_behind : (own : List ℕ) (k : ℕ) → ((i : ℕ) → k < i → i < length own → get_or own i 0 ≢ 46)
    → HasNoDot (drop (k + 1) own)
plain_behind own k none i d h =
    let within : k + 1 + i < length own = omega (arith, h, length-drop (k + 1) own) in
    let here : get_or (drop (k + 1) own) i d ≡ get_or own (k + 1 + i) 0 =
    get_or-drop (k + 1) own i d ∙ get_or_default own (k + 1 + i) d 0 within in
    λ dot. none (k + 1 + i) (omega arith) within (sym here ∙ dot)

pub parted_by_dot : (c own : List ℕ) (k : ℕ) → k < length own → get_or own k 0 ≡ 46
    → ((i : ℕ) → k < i → i < length own → get_or own i 0 ≢ 46)
    → IsParted (scoped c own) (scoped c (take k own ++ 46 ∷ [])) (drop (k + 1) own)
parted_by_dot c own k within dot none =
    let whole : own ≡ take k own ++ 46 ∷ drop (k + 1) own = rw add-one (rw dot at (split_at own k 0 within)) in
    subst (λ name. IsParted (scoped c name) (scoped c (take k own ++ 46 ∷ [])) (drop (k + 1) own)) (sym whole)
    (parted_at_dot c (take k own) (drop (k + 1) own) (plain_behind own k none))

pub parted_plain : (c own : List ℕ) → ((i : ℕ) → i < length own → get_or own i 0 ≢ 46)
    → IsParted (scoped c own) (scoped c []) own
parted_plain c own none =
    parted_scoped c own (λ i d h. λ dot. none i h (get_or_default own i 0 d h ∙ dot))

plain_at : (spelled : List ℕ) (i d : ℕ) → i < length (first_part spelled)
    → (get_or (first_part spelled) i d ≡ get_or spelled i d) × (i < position_or_len is_dot spelled)
plain_at spelled i d h = grind (arith, common_steps, get_or-take)

pub first_part_plain : (spelled : List ℕ) → HasNoDot (first_part spelled)
first_part_plain spelled i d h =
    let (same, low) = plain_at spelled i d h in
    let plain = fails_before_first is_dot spelled i d low in
    grind (arith, nat_tests)

-- ---- bits that are set one after the other

pub parts_next : (os : List Occurrence) (k slots : ℕ) (old new : Bits) → k < length os
    → ((before part : List ℕ) → IsTrue (tells_part old slots before part) → IsTrue (tells_part new slots before part))
    → (IsTrue (is_scope (at os k).kind) → (before part : List ℕ) → IsParted (at os k).name before part
    → IsTrue (tells_part new slots before part))
    → TellsParts (take k os) old slots → TellsParts (take (k + 1) os) new slots
parts_next os k slots old new inside kept here told o before part within is parted =
    grind (
      arith,
      take_more os k blank inside,
      Contains-push_cases (take k os) (at os k) o,
      told o before part,
      kept before part,
      here,
    )

-- those of a table more
pub parts_joined : (tables : List (List Occurrence)) (k : ℕ) (t : List Occurrence) (slots : ℕ) (old new : Bits)
    → k < length tables → t ≡ get_or tables k t
    → ((before part : List ℕ) → IsTrue (tells_part old slots before part) → IsTrue (tells_part new slots before part))
    → TellsParts t new slots → TellsParts (all_of (take k tables)) old slots
    → TellsParts (all_of (take (k + 1) tables)) new slots
parts_joined tables k t slots old new inside at kept here told o before part within is parted =
    let front = all_of (take k tables) in
    let whole : all_of (take (k + 1) tables) ≡ front ++ t = ap all_of (take_more tables k t inside)
    ∙ flat_map-append (λ os. os) (take k tables) (get_or tables k t ∷ [])
    ∙ ap (λ os. front ++ os) (append-nil (get_or tables k t) ∙ sym at) in
    elim (Contains-append_cases front t o (subst (λ (os : List Occurrence). Contains os o) whole within)) [
      | inl there ↦ kept before part (told o before part there is parted)
      | inr it ↦ here o before part it is parted
    ]

column_below : (slots part before : ℕ) → 0 < slots → part < 4294967296 → column_of slots part before < slots * 64
unfolding column_of
column_below slots part before some low =
    omega (arith, slot_below slots part some low, slot_below 64 (spread before) (omega arith) (spread_below before))

-- a bit more
pub parts_kept : (slots column : ℕ) (old new : Bits) → 0 < slots → slots * 64 ≤ columns_of old
    → HasInserted old 0 column new → (before part : List ℕ) → IsTrue (tells_part old slots before part)
    → IsTrue (tells_part new slots before part)
unfolding tells_part
parts_kept slots column old new some room put before part is =
    let low = column_below slots (hash_of part) (rolling_hash before) some (hash_below part) in
    (put.bits (column_of slots (hash_of part) (rolling_hash before)) (omega (arith, low, room))).1 (inl is)

pub parts_set : (slots : ℕ) (name before part : List ℕ) (old new : Bits) → 0 < slots → slots * 64 ≤ columns_of old
    → IsParted name before part → HasInserted old 0 (column_of slots (hash_of part) (rolling_hash before)) new
    → (b p : List ℕ) → IsParted name b p → IsTrue (tells_part new slots b p)
unfolding tells_part
parts_set slots name before part old new some room parted put b p other =
    let (same, last) = parted_once name b p before part other parted in
    let low = column_below slots (hash_of part) (rolling_hash before) some (hash_below part) in
    rw (same, last) ((put.bits (column_of slots (hash_of part) (rolling_hash before)) (omega (arith, low, room))).1 (inr refl))
