-- A grammar with a larger limit of depth.
use Rattle.proto_syntax.proofs.Common.{arith, ◌≡◌, ℕ, zero, suc, true, false, List, [], ◌∷◌, ◌++◌, length, refl, sym, ap, append_assoc, ◌+◌, Bool, ◌&&◌, subst, Spelled, Class, fits, Grammar, One, Nothing, ◌⨾◌, ◌∣◌, Many, Beyond, Tree, Pair, flatten, IsTree, both, first, second, none, more, IsFront, empty, within, past, of_first, of_second, items, token, Outcome, Read, Stops, after, mapped, read_many, read, begins, can_be_empty, symbol, enum, message_item, statement}
use Rattle.std.proofs.lemmas.Bool.{and_parts}
use Rattle.proto_syntax.specs.Language.{str, parts, full, named_but, type_but, signed, constant_number, constant, setting, options, option, rpc_type, rpc_body, rpc, service, erange, ereserved, value, range, reserved, declarator, member, oneof, map_type, map_or_field, field_head, field, message, import, syntax, file}
use Rattle.proto_syntax.proofs.Reach.{read_found, after_item}

-- g' is g with rules in place of those beyond the limit
pub data Deeper : Grammar → Grammar → Type 0 where
  same_one : {c : Class} → Deeper (One c) (One c)
  same_nothing : Deeper Nothing Nothing
  in_both : {a a' b b' : Grammar} → Deeper a a' → Deeper b b' → Deeper (a ⨾ b) (a' ⨾ b')
  in_either : {a a' b b' : Grammar} → Deeper a a' → Deeper b b' → Deeper (a ∣ b) (a' ∣ b')
  in_many : {a a' : Grammar} → Deeper a a' → Deeper (Many a) (Many a')
  allowed : {c : Class} {g : Grammar} → begins g ≡ c ∷ [] → can_be_empty g ≡ false
      → ((t : Spelled) → fits c t.lexeme ≡ true → IsFront g (t ∷ []))
      → ((t : Spelled) (ts : List Spelled) → fits c t.lexeme ≡ false → read g (t ∷ ts) ≡ Stops false (t ∷ ts))
      → read g [] ≡ Stops false []
      → Deeper (Beyond c) g

pub deeper_begins : {g g' : Grammar} → Deeper g g' → (begins g ≡ begins g') × (can_be_empty g ≡ can_be_empty g')
deeper_begins same_one = (refl, refl)
deeper_begins same_nothing = (refl, refl)
deeper_begins (in_both h i) = grind (arith, deeper_begins h, deeper_begins i)
deeper_begins (in_either h i) = grind (arith, deeper_begins h, deeper_begins i)
deeper_begins (in_many h) = ((deeper_begins h).0, refl)
deeper_begins (allowed e h f n m) = (sym e, sym h)

pub deeper_tree : {g g' : Grammar} {x : Tree} → Deeper g g' → IsTree g x → IsTree g' x
deeper_tree same_one ix = ix
deeper_tree same_nothing ix = ix
deeper_tree (in_both h i) (both ix iy) = both (deeper_tree h ix) (deeper_tree i iy)
deeper_tree (in_either h i) (first ix) = first (deeper_tree h ix)
deeper_tree (in_either h i) (second ix) = second (deeper_tree i ix)
deeper_tree (in_many h) none = none
deeper_tree (in_many h) (more ix iy) = more (deeper_tree h ix) (deeper_tree (in_many h) iy)
deeper_tree (allowed e h f n m) ix = elim ix [ ]

pub deeper_front : {g g' : Grammar} {ts : List Spelled} → Deeper g g' → IsFront g ts → IsFront g' ts
deeper_front h empty = empty
deeper_front same_one f = f
deeper_front (in_both h i) (within f) = within (deeper_front h f)
deeper_front (in_both h i) (past ix f e) = past (deeper_tree h ix) (deeper_front i f) e
deeper_front (in_either h i) (of_first f) = of_first (deeper_front h f)
deeper_front (in_either h i) (of_second f) = of_second (deeper_front i f)
deeper_front (in_many h) (items ix f e) = items (deeper_tree (in_many h) ix) (deeper_front h f) e

-- the grammar goes on with the first of us, of which ts ends
pub record GoesOn (g : Grammar) (ts us : List Spelled) : Type 0 where
  pub before : List Spelled
  pub token : Spelled
  pub later : List Spelled
  pub parts : ts ≡ before ++ us
  pub here : us ≡ token ∷ later
  pub front : IsFront g (before ++ (token ∷ []))

-- What is read with a larger limit: the same, but where reading stops at the limit, the grammar goes on with that
-- token.
abbrev pub Sees : Grammar → List Spelled → Outcome → Outcome → Type 0
Sees g ts (Read x us) o = o ≡ Read x us
Sees g ts (Stops false us) o = o ≡ Stops false us
Sees g ts (Stops true us) o = GoesOn g ts us

-- behind what is read, where a front of the rest is then one of the whole
goes_later : {g g' : Grammar} (fs : List Spelled) {ts us vs : List Spelled} → ts ≡ fs ++ us
    → ((ws : List Spelled) → IsFront g ws → IsFront g' (fs ++ ws)) → GoesOn g us vs → GoesOn g' ts vs
goes_later fs {vs = vs} e f h = record {
  before = fs ++ h.before;
  token = h.token;
  later = h.later;
  parts = rw (e, h.parts) (sym (append_assoc fs h.before vs));
  here = h.here;
  front = rw append_assoc (f _ h.front);
}

goes_here : {g : Grammar} {t : Spelled} {ts : List Spelled} → IsFront g (t ∷ []) → GoesOn g (t ∷ ts) (t ∷ ts)
goes_here {t = t} {ts = ts} f = record { before = []; token = t; later = ts; parts = refl; here = refl; front = f }

mapped_sees : {g g' : Grammar} (change : Tree → Tree) (fs ts us : List Spelled) → ts ≡ fs ++ us
    → ((ws : List Spelled) → IsFront g ws → IsFront g' (fs ++ ws)) → (o o' : Outcome) → Sees g us o o'
    → Sees g' ts (mapped change o) (mapped change o')
mapped_sees change fs ts us e f (Read x vs) o' h = ap (mapped change) h
mapped_sees change fs ts us e f (Stops false vs) o' h = ap (mapped change) h
mapped_sees change fs ts us e f (Stops true vs) o' h = goes_later fs e f h

-- a part, and what is read after it
after_sees : {a a' b g : Grammar} → Deeper a a' → ((ws : List Spelled) → IsFront a' ws → IsFront g ws)
    → ((x : Tree) → IsTree a' x → (ws : List Spelled) → IsFront b ws → IsFront g (flatten x ++ ws))
    → (next next' : List Spelled → Outcome) → ((us : List Spelled) → Sees b us (next us) (next' us))
    → (ts : List Spelled) (o o' : Outcome) → o ≡ read a ts → Sees a' ts o o'
    → Sees g ts (after o (λ x us. mapped (Pair x) (next us))) (after o' (λ x us. mapped (Pair x) (next' us)))
after_sees {a = a} d f p next next' k ts (Read x us) o' q h = let s = read_found a ts x us (sym q) in
    rw h (mapped_sees (Pair x) (flatten x) ts us s.1 (p x (deeper_tree d s.0)) (next us) (next' us) (k us))
after_sees d f p next next' k ts (Stops false us) o' q h = rw h refl
after_sees d f p next next' k ts (Stops true us) o' q h = goes_later [] refl f h

many_sees : {a a' : Grammar} → Deeper a a' → ((ts : List Spelled) → Sees a' ts (read a ts) (read a' ts))
    → (n : ℕ) (ts : List Spelled)
    → Sees (Many a') ts (read_many (read a) (begins a) n ts) (read_many (read a') (begins a') n ts)
many_sees d h zero ts = refl
many_sees {a = a} {a' = a'} d h (suc n) ts =
    grind (
      arith,
      deeper_begins d,
      after_sees d (λ ws f. items none f refl) (λ x ix ws f. after_item a' x ws ix f)
          (read_many (read a) (begins a) n) (read_many (read a') (begins a') n) (many_sees d h n) ts (read a ts)
          (read a' ts)
          refl (h ts),
    )

pub sees : {g g' : Grammar} → Deeper g g' → (ts : List Spelled) → Sees g' ts (read g ts) (read g' ts)
sees same_one ts = grind arith
sees same_nothing ts = refl
sees (in_both {a = a} {a' = a'} {b = b} {b' = b'} h i) ts =
    after_sees h (λ ws f. within f) (λ x ix ws f. past ix f refl) (read b) (read b') (sees i) ts (read a ts)
    (read a' ts)
    refl (sees h ts)
sees (in_either h i) ts = grind (arith, deeper_begins h, of_first, of_second, sees h ts, sees i ts)
sees (in_many h) ts = many_sees h (sees h) (length ts) ts
sees (allowed e h f n m) [] = m
sees (allowed e h f n m) (t ∷ ts) = grind (arith, goes_here, f, n)

-- no rule beyond the limit
abbrev bounded : Grammar → Bool
bounded (One c) = true
bounded Nothing = true
bounded (a ⨾ b) = bounded a && bounded b
bounded (a ∣ b) = bounded a && bounded b
bounded (Many a) = bounded a
bounded (Beyond c) = false

kept : (g : Grammar) → bounded g ≡ true → Deeper g g
kept (One c) h = same_one
kept Nothing h = same_nothing
kept (a ⨾ b) h = let w = and_parts (bounded a) (bounded b) h in in_both (kept a w.0) (kept b w.1)
kept (a ∣ b) h = let w = and_parts (bounded a) (bounded b) h in in_either (kept a w.0) (kept b w.1)
kept (Many a) h = in_many (kept a h)
kept (Beyond c) h = cc

-- a larger limit
abbrev pub above : ℕ → ℕ → ℕ
above zero k = suc k
above (suc d) k = suc (above d k)

above_is : (d k : ℕ) → above d k ≡ suc (d + k)
above_is zero k = omega arith
above_is (suc d) k = omega (arith, above_is d k)

item_deeper : (m m' : Grammar) → Deeper m m' → Deeper (message_item m) (message_item m')
unfolding str parts full named_but type_but signed constant_number constant setting options option erange ereserved
    value range reserved declarator member oneof
    map_type map_or_field field_head field
item_deeper m m' h = in_either h (kept (enum ∣ option ∣ oneof ∣ reserved ∣ map_or_field ∣ symbol ";" ∣ field) refl)

message_deeper : (d k : ℕ) → Deeper (message d) (message (above d k))
unfolding message
message_deeper zero k = allowed refl refl (λ t h. within (token h)) (λ t ts h. rw h refl) refl
message_deeper (suc d) k = grind (arith, in_both, same_one, in_many, item_deeper, message_deeper d k)

statement_deeper : (m m' : Grammar) → Deeper m m' → Deeper (statement m) (statement m')
unfolding str parts full named_but signed constant_number constant setting options option rpc_type rpc_body rpc service
    erange ereserved value import
statement_deeper m m' h = grind (arith, in_either, kept)

pub file_deeper : (d k : ℕ) → Deeper (file d) (file (above d k))
unfolding syntax str file
file_deeper d k = grind (arith, in_both, kept, in_many, statement_deeper, message_deeper)

-- a limit above both
pub file_deeper_other : (d k : ℕ) → Deeper (file k) (file (above d k))
file_deeper_other d k = let e : above k d ≡ above d k = omega (arith, above_is d k, above_is k d) in
    subst (λ n. Deeper (file k) (file n)) e (file_deeper k d)
