-- What entries stand for, one behind the other, and the scopes among them.
use Rattle.proto_names.proofs.Common.{common_steps, MatchOption, inl, inr, ◌⊎◌, ◌≡◌, ◌≢◌, ◌∙◌, ap, sym, refl, ℕ, zero, suc, ◌+◌, ◌<◌, ◌≤◌, List, [], ◌∷◌, ◌++◌, length, map, take, drop, get_or, fold, arith, append_assoc, append-nil, length-append, length-drop, length-map, IsUtf8, Option, None, Some, drop-append-le, take-append-le, take_all, drop_at, drop-append_seam, map_push, get_or-take, get_or-map, get_or_append_left, get_or_push, get_or-append_right, length_push, length-take, cases_lt, take-append_seam, All, All-head, All-tail, scoped, hash_step, rolling_hash, Occurrence, package_occurrence, prefixes, at, blank}
use Rattle.std.specs.Option.{unwrap_or}
use Rattle.std.specs.Prelude.{if◌then◌else◌}
use Rattle.std.proofs.lemmas.List.Sums.{fold-append}
use Rattle.std.proofs.lemmas.Str.{IsUtf8-append, IsUtf8-from_ascii}
use Rattle.proto_names.specs.Entries.{AreEntriesOf, IsScopeAmong, NamedEntry, occurrence_behind, occurrences_of_named, occurrences_of_entries, own_name, named_entry, scope_name}
use Rattle.proto_names.specs.Scopes.{is_dot}
use Rattle.proto_names.specs.declared.entry.Entry.{Entry}
use Rattle.proto_names.specs.declared.entry.Location.{Location}

-- ---- one behind the other

abbrev put : List Occurrence → NamedEntry → List Occurrence
put os e = os ++ occurrence_behind os e ∷ []

read_push : (es : List NamedEntry) (e : NamedEntry)
    → occurrences_of_named (es ++ e ∷ [])
    ≡ occurrences_of_named es ++ occurrence_behind (occurrences_of_named es) e ∷ []
unfolding occurrences_of_named
read_push es e = fold-append put [] es (e ∷ [])

-- what is put later stands behind
stays : (os : List Occurrence) (es : List NamedEntry) → (more : List Occurrence) × (fold put os es ≡ os ++ more)
stays os [] = ([], sym (append-nil os))
stays os (e ∷ es) =
    let o = occurrence_behind os e in
    let (more, is) = stays (put os e) es in
    (o ∷ more, is ∙ append_assoc os (o ∷ []) more)

put_length : (os : List Occurrence) (es : List NamedEntry) → length (fold put os es) ≡ length os + length es
put_length os [] = omega arith
put_length os (e ∷ es) =
    omega (arith, put_length (put os e) es, length-append os (occurrence_behind os e ∷ []))

put_at : (os : List Occurrence) (es : List NamedEntry) (k n : ℕ) (d : NamedEntry) → k < length es → n ≡ length os + k
    → at (fold put os es) n ≡ occurrence_behind (take n (fold put os es)) (get_or es k d)
put_at os [] k n d h is = absurd (omega (arith, h))
put_at os (e ∷ es) zero n d h is =
    let o = occurrence_behind os e in
    let (more, stay) = stays (put os e) es in
    let whole : fold put os (e ∷ es) ≡ os ++ o ∷ more = stay ∙ append_assoc os (o ∷ []) more in
    let size : n ≡ length os = omega (arith, is) in
    let front : take n (os ++ o ∷ more) ≡ os =
    ap (λ n. take n (os ++ o ∷ more)) size ∙ take-append_seam os (o ∷ more) in
    let here : at (os ++ o ∷ more) n ≡ o = grind (arith, common_steps, get_or-append_right) in
    rw whole (here ∙ ap (λ before. occurrence_behind before e) (sym front))
put_at os (e ∷ es) (suc k) n d h is =
    put_at (put os e) es k n d (omega (arith, h)) (omega (arith, is, length-append os (occurrence_behind os e ∷ [])))

read_at : (es : List NamedEntry) (k : ℕ) (d : NamedEntry) → k < length es
    → at (occurrences_of_named es) k ≡ occurrence_behind (take k (occurrences_of_named es)) (get_or es k d)
unfolding occurrences_of_named
read_at es k d h = put_at [] es k k d h (omega arith)

read_length : (es : List NamedEntry) → length (occurrences_of_named es) ≡ length es
unfolding occurrences_of_named
read_length es = omega (arith, put_length [] es)

-- ---- entries with the text of their names

module _ (text : List ℕ) (es : List Entry) where
  pub told_length : length (occurrences_of_entries text es) ≡ length es
  told_length = read_length (map (named_entry text) es) ∙ length-map es (named_entry text)

  pub told_at : (k : ℕ) (d : Entry) → k < length es
      → at (occurrences_of_entries text es) k
      ≡ occurrence_behind (take k (occurrences_of_entries text es)) (named_entry text (get_or es k d))
  told_at k d h =
      let at_read = read_at (map (named_entry text) es) k (named_entry text d) in
      grind (arith, common_steps, length-map, get_or-map, at_read)

  -- beyond them stands nothing
  pub told_beyond : (k : ℕ) → length es ≤ k → at (occurrences_of_entries text es) k ≡ blank
  told_beyond k h = grind (arith, common_steps, told_length)

-- the scope of what stands at a position is among those before it
pub scope_before : (os : List Occurrence) (k s : ℕ) → s < k → at (take k os) s ≡ at os s
scope_before os k s h = grind (arith, common_steps, get_or-take)

pub scope_beyond : (os : List Occurrence) (k s : ℕ) → k ≤ s → at (take k os) s ≡ blank
scope_beyond os k s h = grind (arith, common_steps, length-take)

-- ---- the text grows

own_more : (old more : List ℕ) (e : Entry) → e.start + e.len ≤ length old → own_name (old ++ more) e ≡ own_name old e
own_more old more e within = grind (arith, common_steps, length-drop, drop-append-le, take-append-le)

reads_more : (old more : List ℕ) (es : List Entry) → All (λ e. e.start + e.len ≤ length old) es
    → map (named_entry (old ++ more)) es ≡ map (named_entry old) es
reads_more old more [] within = refl
reads_more old more (e ∷ es) within =
    let here = own_more old more e (All-head (λ e. e.start + e.len ≤ length old) e es within) in
    cc (here, reads_more old more es (All-tail (λ e. e.start + e.len ≤ length old) e es within))

module _ (old more : List ℕ) (es : List Entry) (of : AreEntriesOf old es) where
  pub told_more : occurrences_of_entries (old ++ more) es ≡ occurrences_of_entries old es
  told_more = ap occurrences_of_named (reads_more old more es (λ k d h. (of k d h).within))

  pub entries_more : AreEntriesOf (old ++ more) es
  entries_more k d h = rw told_more (record {
    within = omega (arith, (of k d h).within, length-append old more);
    is_text = (of k d h).is_text;
    hashed = (of k d h).hashed;
    named = (of k d h).named;
  })

-- ---- names in scopes

pub no_text : IsUtf8 []
no_text = IsUtf8-from_ascii [] (λ i. grind (arith, common_steps))

pub scoped_text : (scope name : List ℕ) → IsUtf8 scope → IsUtf8 name → IsUtf8 (scoped scope name)
scoped_text [] name outer inner = inner
scoped_text (c ∷ cs) name outer inner =
    IsUtf8-append (c ∷ cs) (46 ∷ name) outer
    (IsUtf8-append (46 ∷ []) name (IsUtf8-from_ascii (46 ∷ []) (λ i. grind (arith, common_steps))) inner)

scoped_append : (scope name more : List ℕ) → scoped scope (name ++ more) ≡ scoped scope name ++ more
scoped_append [] name more = refl
scoped_append (c ∷ cs) name more = sym (append_assoc (c ∷ cs) (46 ∷ name) more)

pub scoped_split : (scope name front back : List ℕ) → name ≡ front ++ back
    → scoped scope name ≡ scoped scope front ++ back
scoped_split scope name front back is = ap (scoped scope) is ∙ scoped_append scope front back

-- the rolling hash goes on behind a scope
pub rolling_scope : (scope name : List ℕ) → scope ≢ []
    → fold hash_step (hash_step (rolling_hash scope) 46) name ≡ rolling_hash (scoped scope name)
rolling_scope [] name some = absurd (some refl)
rolling_scope (c ∷ cs) name some = sym (fold-append hash_step 0 (c ∷ cs) (46 ∷ name))

pub placed_by : (scope : Option ℕ) (size nowhere place : ℕ) → size ≤ nowhere → place ≡ unwrap_or scope nowhere
    → MatchOption scope (size ≤ place) (λ s. place ≡ s)
placed_by None size nowhere place far is = omega (arith, is, far)
placed_by (Some s) size nowhere place far is = is

scoped_some : (scope name : List ℕ) → (scope ≢ []) ⊎ (name ≢ []) → scoped scope name ≢ []
scoped_some [] name h e = grind arith
scoped_some (c ∷ cs) name h e = grind (arith, common_steps)

-- ---- an entry more, whose own name stands in the text

abbrev pub occurrence_in : Option ℕ → List Occurrence → List ℕ → Entry → Occurrence
occurrence_in scope os name e = record {
  name = scoped (scope_name os scope) name;
  file = e.location.file;
  place = e.location.place;
  kind = e.kind;
}

module _ (text name : List ℕ) (es : List Entry) (e : Entry) (scope : Option ℕ) (of : AreEntriesOf text es)
    (within : e.start + e.len ≤ length text) (own : own_name text e ≡ name)
    (placed : MatchOption scope (length es ≤ e.scope) (λ s. e.scope ≡ s))
    (among : IsScopeAmong (occurrences_of_entries text es) scope) where
  abbrev os : List Occurrence
  os = occurrences_of_entries text es

  abbrev full : List ℕ
  full = scoped (scope_name os scope) name

  abbrev o : Occurrence
  o = occurrence_in scope os name e

  outer_is : (at os e.scope).name ≡ scope_name os scope
  outer_is = outer_by scope placed where
    outer_by : (s : Option ℕ) → MatchOption s (length es ≤ e.scope) (λ s. e.scope ≡ s)
        → (at os e.scope).name ≡ scope_name os s
    outer_by None far = ap (λ o. o.name) (told_beyond text es e.scope far)
    outer_by (Some s) is = ap (λ k. (at os k).name) is

  behind_is : occurrence_behind os (named_entry text e) ≡ o
  behind_is = rw (outer_is, own) refl

  pub told_put : occurrences_of_entries text (es ++ e ∷ []) ≡ os ++ o ∷ []
  told_put =
      ap occurrences_of_named (map_push (named_entry text) es e)
      ∙ read_push (map (named_entry text) es) (named_entry text e)
      ∙ rw behind_is refl

  at_old : (k : ℕ) → k < length es → at (os ++ o ∷ []) k ≡ at os k
  at_old k h = get_or_append_left os (o ∷ []) blank k (omega (arith, told_length text es, h))

  at_new : at (os ++ o ∷ []) (length es) ≡ o
  at_new = get_or_push os o blank (length es) (told_length text es)

  named_scope : e.scope < length es → (at os e.scope).name ≢ []
  named_scope = named_by scope placed among where
    named_by : (s : Option ℕ) → MatchOption s (length es ≤ e.scope) (λ s. e.scope ≡ s) → IsScopeAmong os s
        → e.scope < length es → (at os e.scope).name ≢ []
    named_by None far is h = absurd (omega (arith, far, h))
    named_by (Some s) same is h = λ empty. is.1 (ap (λ k. (at os k).name) (sym same) ∙ empty)

  full_text : IsUtf8 name → IsUtf8 full
  full_text inner = scoped_text (scope_name os scope) name (outer_text scope among) inner where
    outer_text : (s : Option ℕ) → IsScopeAmong os s → IsUtf8 (scope_name os s)
    outer_text None is = no_text
    outer_text (Some s) is = (of s e (omega (arith, told_length text es, is.0))).is_text

  pub entries_put : IsUtf8 name → e.rolling ≡ rolling_hash full → AreEntriesOf text (es ++ e ∷ [])
  entries_put inner hash k d h = rw told_put (elim (cases_lt k (length es)) [
    | inl low ↦ (let was = of k d low in
        rw (get_or_append_left es (e ∷ []) d k low) (record {
          within = was.within;
          is_text = rw (at_old k low) was.is_text;
          hashed = rw (at_old k low) was.hashed;
          named = λ less. rw (at_old (get_or es k d).scope (omega (arith, less, low))) (was.named less);
        }))
    | inr high ↦ (let last : k ≡ length es = omega (arith, h, high, length_push es e) in
        rw (last, get_or_push es e d (length es) refl) (record {
          within = within;
          is_text = rw at_new (full_text inner);
          hashed = rw at_new hash;
          named = λ less. rw (at_old e.scope less) (named_scope less);
        }))
  ])

  -- the entry as a scope
  pub scope_put : (inside : Option ℕ)
      → MatchOption inside ((scope ≡ None) × (name ≡ []))
      (λ at. (at ≡ length es) × ((scope ≢ None) ⊎ (name ≢ [])))
      → (scope_name (os ++ o ∷ []) inside ≡ full) × IsScopeAmong (os ++ o ∷ []) inside
  scope_put None (none, empty) = (rw (none, empty) refl, tt)
  scope_put (Some k) (is, some) = rw is (
    ap (λ o. o.name) at_new,
    (
      omega (arith, told_length text es, length_push os o),
      λ empty. scoped_some (scope_name os scope) name (outer_some some) (ap (λ o. o.name) (sym at_new) ∙ empty),
    ),
  ) where
    outer_some : (scope ≢ None) ⊎ (name ≢ []) → (scope_name os scope ≢ []) ⊎ (name ≢ [])
    outer_some (inr h) = inr h
    outer_some (inl h) = inl (some_by scope h among) where
      some_by : (s : Option ℕ) → s ≢ None → IsScopeAmong os s → scope_name os s ≢ []
      some_by None h is = absurd (h refl)
      some_by (Some s) h is = is.1

-- whose own name goes behind the text
module _ (old name : List ℕ) (es : List Entry) (e : Entry) (scope : Option ℕ) (of : AreEntriesOf old es)
    (start : e.start ≡ length old) (len : e.len ≡ length name)
    (placed : MatchOption scope (length es ≤ e.scope) (λ s. e.scope ≡ s))
    (among : IsScopeAmong (occurrences_of_entries old es) scope) where
  same : occurrences_of_entries (old ++ name) es ≡ occurrences_of_entries old es
  same = told_more old name es of

  grown : AreEntriesOf (old ++ name) es
  grown = entries_more old name es of

  own_is : own_name (old ++ name) e ≡ name
  own_is = grind (arith, common_steps, drop_at, take_all, length-append old name)

  within : e.start + e.len ≤ length (old ++ name)
  within = omega (arith, start, len, length-append old name)

  among_more : IsScopeAmong (occurrences_of_entries (old ++ name) es) scope
  among_more = rw same among

  pub told_push : occurrences_of_entries (old ++ name) (es ++ e ∷ [])
      ≡ occurrences_of_entries old es ++ occurrence_in scope (occurrences_of_entries old es) name e ∷ []
  told_push = rw same at (told_put (old ++ name) name es e scope grown within own_is placed among_more)

  pub entries_push : IsUtf8 name
      → e.rolling ≡ rolling_hash (scoped (scope_name (occurrences_of_entries old es) scope) name)
      → AreEntriesOf (old ++ name) (es ++ e ∷ [])
  entries_push inner hash =
      entries_put (old ++ name) name es e scope grown within own_is placed among_more inner (rw same hash)

  pub scope_push : (inside : Option ℕ)
      → MatchOption inside ((scope ≡ None) × (name ≡ []))
      (λ at. (at ≡ length es) × ((scope ≢ None) ⊎ (name ≢ [])))
      → (scope_name (occurrences_of_entries old es
      ++ occurrence_in scope (occurrences_of_entries old es) name e ∷ []) inside
      ≡ scoped (scope_name (occurrences_of_entries old es) scope) name)
      × IsScopeAmong (occurrences_of_entries old es
      ++ occurrence_in scope (occurrences_of_entries old es) name e ∷ []) inside
  scope_push inside is =
      rw same at (scope_put (old ++ name) name es e scope grown within own_is placed among_more inside is)

-- ---- the prefixes of a package's name, which all have the text of the name

pub front_front : (name prefix shorter : List ℕ) → take (length prefix) name ≡ prefix
    → length shorter < length prefix → prefix ≡ shorter ++ drop (length shorter) prefix
    → take (length shorter) name ≡ shorter
front_front name prefix shorter front less split =
    let cut : take (length shorter) (take (length prefix) name) ≡ take (length shorter) name =
    grind (arith, common_steps) in
    let last : take (length shorter) prefix ≡ shorter =
    ap (take (length shorter)) split ∙ take-append_seam shorter (drop (length shorter) prefix) in
    sym cut ∙ ap (take (length shorter)) front ∙ last

module _ (old name prefix : List ℕ) (es : List Entry) (e : Entry) (of : AreEntriesOf (old ++ name) es)
    (start : e.start ≡ length old) (len : e.len ≡ length prefix) (front : take (length prefix) name ≡ prefix)
    (far : length es ≤ e.scope) where
  own_front : own_name (old ++ name) e ≡ prefix
  own_front = rw (start, len, drop-append_seam old name) front

  within_front : e.start + e.len ≤ length (old ++ name)
  within_front =
      omega (arith, start, len, ap length front, length-take (length prefix) name, length-append old name)

  pub prefix_told : occurrences_of_entries (old ++ name) (es ++ e ∷ [])
      ≡ occurrences_of_entries (old ++ name) es ++ occurrence_in None [] prefix e ∷ []
  prefix_told = told_put (old ++ name) prefix es e None of within_front own_front far tt

  pub prefix_entries : IsUtf8 prefix → e.rolling ≡ rolling_hash prefix → AreEntriesOf (old ++ name) (es ++ e ∷ [])
  prefix_entries = entries_put (old ++ name) prefix es e None of within_front own_front far tt

-- the longest prefix of a name is the name
first_prefix : (name : List ℕ) → (rest : List (List ℕ)) × (prefixes name ≡ name ∷ rest)
first_prefix [] = ([], refl)
first_prefix (b ∷ bs) =
    let (rest, is) = first_prefix bs in
    (map (λ prefix. b ∷ prefix) rest ++ (if is_dot b then [] ∷ [] else []), rw is refl)

-- so the first of a package's entries is its scope
pub package_scope : (os : List Occurrence) (name : List ℕ) (location : Location) (scope inside : Option ℕ)
    → scope ≡ None
    → MatchOption inside ((scope ≡ None) × (name ≡ []))
    (λ k. (k ≡ length os) × ((scope ≢ None) ⊎ (name ≢ [])))
    → (scope_name (os ++ map (package_occurrence location.file location.place) (prefixes name)) inside ≡ name)
    × IsScopeAmong (os ++ map (package_occurrence location.file location.place) (prefixes name)) inside
package_scope os name location scope None top (none, empty) = (sym empty, tt)
package_scope os name location scope (Some k) top (is, some) =
    let (rest, first) = first_prefix name in
    let occurs = package_occurrence location.file location.place in
    let more = occurs name ∷ map occurs rest in
    let here : at (os ++ more) (length os) ≡ occurs name =
    grind (arith, get_or-append_right os more (length os) blank) in
    let named = ap (λ (o : Occurrence). o.name) here in
    let filled : name ≢ [] = elim some [
      | inl inside ↦ absurd (inside top)
      | inr there ↦ there
    ] in
    rw (is, first) (named, (omega (arith, length-append os more), λ empty. filled (sym named ∙ empty)))
