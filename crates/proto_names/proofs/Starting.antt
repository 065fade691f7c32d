-- Hashes and their slots: where slots begin, and the slots of scopes as bits.
use Rattle.proto_names.proofs.Common.{common_steps, ap, sym, fold, scoped, drop, drop-append_seam, IsCandidate, ◌∙◌, ◌%◌, ◌≡◌, ℕ, ◌+◌, ◌-◌, ◌*◌, ◌<◌, ◌≤◌, List, [], ◌∷◌, ◌++◌, length, take, get_or, append_assoc, arith, inl, inr, lit<, refl, IsTrue, replicate, is_lt, get_or-append_right, cases_lt, get_or-replicate, length-replicate, take_more, Contains-push_cases, ranks_by, sorted_far, le-div, Bits, HasInserted, columns_of, mod_below, hash_of, hash_step, rolling_hash, name_of, Occurrence, AreInHashOrder, name_cmp, is_scope, at, blank, TellsScopes, Option, false, true≢false, Contains-get_or}
use Rattle.std.proofs.Math.ListN.{get_or-append}
use Rattle.std.proofs.lemmas.Bool.{and_from, and_parts, cases_Bool}
use Rattle.std.proofs.Math.Nat.{add-mod-mod, div-lt_iff_lt-mul, div-mul-le_self, mod-add-mod, mul-le-mul_right, mul-lt-mul_of_pos_right, mul_assoc}
use Rattle.std.proofs.lemmas.List.{length-append}
use Rattle.std.proofs.lemmas.List.Folds.{fold_along}
use Rattle.std.proofs.lemmas.List.Sums.{fold-append}
use Rattle.std.proofs.lemmas.Nat.{mul-mod_first, mul-mod_second}
use Rattle.proto_names.specs.Hashes.{slot_of, spread}
use Rattle.proto_desc.specs.declared.name_kind.NameKind.{NameKind}
use Rattle.proto_names.specs.Index.{is_service_kind}
use Rattle.proto_names.specs.ScopeHashes.{tells}
use Rattle.proto_names.specs.Starts.{AreStarts, BeginsSlot, slot_at}
use Rattle.proto_names.proofs.Ordered.{first_not, name_total, not_below}

-- ---- hashes

pub rolling_below : (name : List ℕ) → rolling_hash name < 4294967296
rolling_below name =
    fold_along hash_step hash_step (λ hash other. hash < 4294967296) (λ b c x h. omega arith) 0 0 name (lit< tt)

pub spread_below : (hash : ℕ) → spread hash < 4294967296
unfolding spread
spread_below hash = mod_below (hash * 2654435769) 4294967296 (lit< tt)

pub hash_below : (name : List ℕ) → hash_of name < 4294967296
hash_below name = spread_below (rolling_hash name)

-- what stands before a name in a scope
pub dotted_hash : (s : List ℕ) → 0 < length s → rolling_hash (scoped s []) ≡ hash_step (rolling_hash s) 46
dotted_hash [] some = absurd (omega (arith, some))
dotted_hash (c ∷ cs) some = fold-append hash_step 0 (c ∷ cs) (46 ∷ [])

-- and with the name behind it
pub scoped_hash : (s name : List ℕ)
    → fold hash_step (rolling_hash (scoped s [])) name ≡ rolling_hash (scoped s name)
scoped_hash [] name = refl
scoped_hash (c ∷ cs) name = sym (ap rolling_hash (sym (append_assoc (c ∷ cs) (46 ∷ []) name))
    ∙ fold-append hash_step 0 ((c ∷ cs) ++ 46 ∷ []) name)

-- the parts of a scope that another one around it has
pub around_prefix : (outer s : List ℕ) → IsCandidate outer s → length outer < length s
    → scoped outer [] ++ drop (length (scoped outer [])) s ≡ s
around_prefix [] s is less = refl
around_prefix (c ∷ cs) s (inl e) less = cc
around_prefix (c ∷ cs) s (inr (inl e)) less = absurd (omega (arith, less, ap length e))
around_prefix (c ∷ cs) s (inr (inr (rest, e))) less =
    let dotted : List ℕ = (c ∷ cs) ++ 46 ∷ [] in
    rw (e ∙ sym (append_assoc (c ∷ cs) (46 ∷ []) rest)) (ap (λ x. dotted ++ x) (drop-append_seam dotted rest))

pub dotted_length : (s : List ℕ) → 0 < length s → length (scoped s []) ≡ length s + 1
dotted_length [] some = absurd (omega (arith, some))
dotted_length (c ∷ cs) some = grind (arith, common_steps)

-- the rolling hash of a text is that of all but its last byte, and the byte
pub hash_end : (prefix bytes : List ℕ) (k d : ℕ) → k < length bytes
    → rolling_hash (prefix ++ take (k + 1) bytes) ≡ hash_step (rolling_hash (prefix ++ take k bytes)) (get_or bytes k d)
hash_end prefix bytes k d within =
    rw (take_more bytes k d within, ← append_assoc prefix (take k bytes) (get_or bytes k d ∷ []))
    (fold-append hash_step 0 (prefix ++ take k bytes) (get_or bytes k d ∷ []))

-- one byte more at the end of a text, whose hash behind another is told by a power and the hash alone
ending_step : (before power hash byte : ℕ) → ((before * power + hash) % 4294967296 * 16777619 + byte) % 4294967296
    ≡ (before * ((power * 16777619 + 0) % 4294967296) + (hash * 16777619 + byte) % 4294967296) % 4294967296
ending_step before power hash byte =
    let n = before * power + hash in
    let z = power * 16777619 + 0 in
    let w = hash * 16777619 + byte in
    let left : (n % 4294967296 * 16777619 + byte) % 4294967296 ≡ (n * 16777619 + byte) % 4294967296 =
    sym (mod-add-mod (n % 4294967296 * 16777619) 4294967296 byte)
    ∙ ap (λ k. (k + byte) % 4294967296) (mul-mod_first n 16777619 4294967296)
    ∙ mod-add-mod (n * 16777619) 4294967296 byte in
    let right : (before * (z % 4294967296) + w % 4294967296) % 4294967296 ≡ (before * z + w) % 4294967296 =
    add-mod-mod (before * (z % 4294967296)) w 4294967296
    ∙ sym (mod-add-mod (before * (z % 4294967296)) 4294967296 w)
    ∙ ap (λ k. (k + w) % 4294967296) (mul-mod_second before z 4294967296)
    ∙ mod-add-mod (before * z) 4294967296 w in
    let same : n * 16777619 + byte ≡ before * z + w =
    omega (arith, mul_assoc before power 16777619) in
    left ∙ ap (λ k. k % 4294967296) same ∙ sym right

pub ending_more : (bytes : List ℕ) (k d power hash : ℕ) → k < length bytes
    → ((before : ℕ) → before < 4294967296 → fold hash_step before (take k bytes) ≡ (before * power + hash) % 4294967296)
    → (before : ℕ) → before < 4294967296 → fold hash_step before (take (k + 1) bytes)
    ≡ (before * hash_step power 0 + hash_step hash (get_or bytes k d)) % 4294967296
ending_more bytes k d power hash within so_far before small =
    rw (take_more bytes k d within) (fold-append hash_step before (take k bytes) (get_or bytes k d ∷ [])
    ∙ ap (λ h. hash_step h (get_or bytes k d)) (so_far before small)
    ∙ ending_step before power hash (get_or bytes k d))

pub ending_first : (before : ℕ) → before < 4294967296 → before ≡ (before * 1 + 0) % 4294967296
ending_first before small = grind (arith, common_steps)

-- ---- slots follow the order

slots_up : (count a b : ℕ) → a ≤ b → slot_of count a ≤ slot_of count b
slots_up count a b h = grind (arith, common_steps, div-mul-le_self, mul-le-mul_right, le-div)

pub slot_below : (count hash : ℕ) → 0 < count → hash < 4294967296 → slot_of count hash < count
slot_below count hash some small =
    let less : hash * count < 4294967296 * count = mul-lt-mul_of_pos_right small some in
    (div-lt_iff_lt-mul {k = 4294967296} (lit< tt)).1 (omega (arith, less))

pub slots_rise : (os : List Occurrence) (count : ℕ) → AreInHashOrder os → (i j : ℕ) → i ≤ j → j < length os
    → slot_at os count i ≤ slot_at os count j
slots_rise os count up i j h below = slots_up count _ _ (not_below (hash_of (at os j).name) (hash_of (at os i).name)
    (first_not _ _ (sorted_far (λ x y. is_lt (name_cmp (name_of x) (name_of y))) (ranks_by name_total name_of) os up i j
    blank h below)))

-- ---- finding where they begin

-- of the first n occurrences each has its slot among those whose starts are found
pub record StartsTo (os : List Occurrence) (count n : ℕ) (starts : List ℕ) : Type 0 where
  pub within : length starts ≤ count
  pub each : (s : ℕ) → s < length starts → BeginsSlot os count s (get_or starts s 0)
  pub filled : (k : ℕ) → k < n → slot_at os count k < length starts

module _ (os : List Occurrence) (count n size : ℕ) (old new : List ℕ) (so_far : StartsTo os count n old)
    (made : new ≡ old ++ replicate (size - length old) n) (inside : n ≤ length os)
    (behind : (k : ℕ) → n ≤ k → k < length os → size ≤ slot_at os count k + 1) where
  longer_length : length new ≡ length old + (size - length old)
  longer_length = rw made (grind (arith, common_steps, length-append, length-replicate))

  longer_new : (s : ℕ) → length old ≤ s → s < length new → get_or new s 0 ≡ n
  longer_new s over h = grind (arith, common_steps, longer_length, get_or-append_right, get_or-replicate)

  longer_old : (s : ℕ) → s < length old → get_or new s 0 ≡ get_or old s 0
  longer_old s less = grind (arith, common_steps, get_or-append)

  longer_each : (s : ℕ) → s < length new → BeginsSlot os count s (get_or new s 0)
  longer_each s h =
      grind (arith, cases_lt s (length old), longer_new s, longer_old s, so_far.each s, longer_length)

pub starts_more : (os : List Occurrence) (count n slot : ℕ) (old new : List ℕ) → AreInHashOrder os → n < length os
    → slot ≡ slot_at os count n → slot < count → new ≡ old ++ replicate (slot + 1 - length old) n
    → StartsTo os count n old → StartsTo os count (n + 1) new
starts_more os count n slot old new up below is few made so_far =
    let behind : (k : ℕ) → n ≤ k → k < length os → slot + 1 ≤ slot_at os count k + 1 =
    λ k h g. omega (arith, slots_rise os count up n k h g) in
    let long = longer_length os count n (slot + 1) old new so_far made (omega arith) behind in
    record {
      within = omega (arith, so_far.within);
      each = longer_each os count n (slot + 1) old new so_far made (omega arith) behind;
      filled = λ k h. grind (arith, cases_lt k n, so_far.filled k);
    }

pub starts_whole : (os : List Occurrence) (count n all : ℕ) (old new : List ℕ) → n ≡ length os
    → all ≡ length os → 0 < count
    → count < 4294967296 → new ≡ old ++ replicate (count + 1 - length old) all → StartsTo os count n old
    → AreStarts os new
starts_whole os count n all old new whole is some few made so_far =
    let known : StartsTo os count all old = rw (is, ← whole) so_far in
    let behind : (k : ℕ) → all ≤ k → k < length os → count + 1 ≤ slot_at os count k + 1 =
    λ k h g. absurd (omega arith) in
    let long = longer_length os count all (count + 1) old new known made (omega arith) behind in
    let size : length new - 1 ≡ count = omega (arith, so_far.within) in
    record {
      some = omega (arith, so_far.within);
      few = omega (arith, so_far.within);
      each = rw size (longer_each os count all (count + 1) old new known made (omega arith) behind);
    }

-- ---- the slots of scopes, as bits that are set one after the other

pub tells_next : (os : List Occurrence) (k slots : ℕ) (old new : Bits) → k < length os
    → ((name : List ℕ) → IsTrue (tells old slots (hash_of name)) → IsTrue (tells new slots (hash_of name)))
    → (IsTrue (is_scope (at os k).kind) → IsTrue (tells new slots (hash_of (at os k).name)))
    → TellsScopes (take k os) old slots → TellsScopes (take (k + 1) os) new slots
tells_next os k slots old new inside kept here told o within is =
    grind (arith, take_more os k blank inside, Contains-push_cases (take k os) (at os k) o, told o, kept o.name)

-- where both slots of what stands there are set
pub tells_set : (os : List Occurrence) (k slots : ℕ) (old between new : Bits) → k < length os → 0 < slots
    → slots ≤ columns_of old → HasInserted old 0 (slot_of slots (hash_of (at os k).name)) between
    → HasInserted between 0 (slot_of slots (spread (hash_of (at os k).name))) new
    → TellsScopes (take k os) old slots → TellsScopes (take (k + 1) os) new slots
unfolding tells
tells_set os k slots old between new inside some room put more =
    let first = λ (c : ℕ) (low : c < slots). put.bits c (omega (arith, low, room)) in
    let second = λ (c : ℕ) (low : c < slots). more.bits c (omega (arith, low, room, put.large.width)) in
    let slot = λ (name : List ℕ). slot_below slots (hash_of name) some (hash_below name) in
    let other = λ (name : List ℕ). slot_below slots (spread (hash_of name)) some (spread_below (hash_of name)) in
    let name = (at os k).name in
    tells_next os k slots old new inside
    (λ n is. let both = and_parts _ _ is in
    and_from _ _ ((second _ (slot n)).1 (inl ((first _ (slot n)).1 (inl both.0))))
    ((second _ (other n)).1 (inl ((first _ (other n)).1 (inl both.1)))))
    (λ is. and_from _ _ ((second _ (slot name)).1 (inl ((first _ (slot name)).1 (inr refl))))
    ((second _ (other name)).1 (inr refl)))

service_scope : (kind : Option NameKind) → IsTrue (is_service_kind kind) → IsTrue (is_scope kind)
service_scope kind is = grind arith

-- what is not told is no service
pub untold : (os : List Occurrence) (bits : Bits) (slots k hash : ℕ) → TellsScopes os bits slots → k < length os
    → hash ≡ hash_of (at os k).name → tells bits slots hash ≡ false → is_service_kind (at os k).kind ≡ false
untold os bits slots k hash told inside is none = elim (cases_Bool (is_service_kind (at os k).kind)) [
  | inl service ↦ absurd (true≢false (sym (told (at os k) (Contains-get_or os k blank inside) (service_scope _ service))
      ∙ ap (tells bits slots) (sym is) ∙ none))
  | inr other ↦ other
]
