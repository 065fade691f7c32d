-- Reading and the grammar: what is read is spelled so, what has a tree is read, and a front is read past. So a fault is
-- where the fronts end, and a list of tokens has at most one tree.
use Rattle.proto_syntax.proofs.Common.{arith, ◌≡◌, ℕ, zero, suc, Bool, false, cond, List, [], ◌∷◌, ◌++◌, length, refl, sym, append_assoc, ◌≤◌, ◌<◌, true, length-append, subst, append-nil, Spelled, Class, fits, Grammar, One, Nothing, ◌⨾◌, ◌∣◌, Many, Beyond, Tree, Leaf, Empty, Pair, Left, Right, flatten, IsTree, one, nothing, both, first, second, none, more, IsFront, empty, within, past, of_first, of_second, items, token, Outcome, Read, Stops, ended, after, mapped, read_many, read, begins, next_fits, can_be_empty, goes_on, decides, all_apart}
use Rattle.proto_syntax.proofs.Begins.{Starts, tree_starts, next_append, apart_other, Opens, front_opens, tree_front}

abbrev pub Sound : Grammar → List Spelled → Outcome → Type 0
Sound g ts (Read x us) = IsTree g x × (ts ≡ flatten x ++ us)
Sound g ts (Stops d us) = (fs : List Spelled) × (ts ≡ fs ++ us) × IsFront g fs

one_sound : (c : Class) (t : Spelled) (ts : List Spelled) (b : Bool) → fits c t.lexeme ≡ b
    → Sound (One c) (t ∷ ts) (cond b (Read (Leaf t) ts) (Stops false (t ∷ ts)))
one_sound c t ts b h = grind (arith, one, empty)

second_sound : (a b : Grammar) (x : Tree) (ts us : List Spelled) → IsTree a x → ts ≡ flatten x ++ us → (o : Outcome)
    → Sound b us o
    → Sound (a ⨾ b) ts (mapped (Pair x) o)
second_sound a b x ts us ix e (Read y vs) (iy, e') = grind (arith, both, append_assoc)
second_sound a b x ts us ix e (Stops d vs) (fs, e', f) =
    (flatten x ++ fs, rw (e, e') (sym (append_assoc (flatten x) fs vs)), past ix f refl)

seq_sound : (a b : Grammar) (ts : List Spelled) (o : Outcome) → Sound a ts o
    → ((us : List Spelled) → Sound b us (read b us))
    → Sound (a ⨾ b) ts (after o (λ x us. mapped (Pair x) (read b us)))
seq_sound a b ts (Read x us) (ix, e) h = second_sound a b x ts us ix e (read b us) (h us)
seq_sound a b ts (Stops d us) (fs, e, f) h = (fs, e, within f)

left_sound : (a b : Grammar) (ts : List Spelled) (o : Outcome) → Sound a ts o → Sound (a ∣ b) ts (mapped Left o)
left_sound a b ts o h = grind (arith, first, of_first)

right_sound : (a b : Grammar) (ts : List Spelled) (o : Outcome) → Sound b ts o → Sound (a ∣ b) ts (mapped Right o)
right_sound a b ts o h = grind (arith, second, of_second)

choice_sound : (a b : Grammar) (ts : List Spelled) (z : Bool) → Sound a ts (read a ts) → Sound b ts (read b ts)
    → Sound (a ∣ b) ts (cond z (mapped Left (read a ts)) (mapped Right (read b ts)))
choice_sound a b ts z h i = grind (arith, left_sound, right_sound)

-- an item, and then a front of the others
pub after_item : (a : Grammar) (x : Tree) (fs : List Spelled) → IsTree a x → IsFront (Many a) fs
    → IsFront (Many a) (flatten x ++ fs)
after_item a x fs ix empty = items (more ix none) empty (sym (append-nil (flatten x ++ [])))
after_item a x fs ix (items {x = y} {us = ws} iy f' q) =
    items (more ix iy) f' (rw q (sym (append_assoc (flatten x) (flatten y) ws)))

rest_sound : (a : Grammar) (x : Tree) (ts us : List Spelled) → IsTree a x → ts ≡ flatten x ++ us → (o : Outcome)
    → Sound (Many a) us o
    → Sound (Many a) ts (mapped (Pair x) o)
rest_sound a x ts us h i o j = grind (arith, more, append_assoc, after_item)

item_sound : (a : Grammar) (ts : List Spelled) (o : Outcome) → Sound a ts o → (next : List Spelled → Outcome)
    → ((us : List Spelled) → Sound (Many a) us (next us))
    → Sound (Many a) ts (after o (λ x us. mapped (Pair x) (next us)))
item_sound a ts (Read x us) (ix, e) next h = rest_sound a x ts us ix e (next us) (h us)
item_sound a ts (Stops d us) (fs, e, f) next h = (fs, e, items none f refl)

turn_sound : (a : Grammar) (ts : List Spelled) (z : Bool) (o : Outcome) → Sound (Many a) ts o
    → Sound (Many a) ts (cond z o (Read Empty ts))
turn_sound a ts z o h = grind (arith, none)

pub many_sound : (a : Grammar) (h : (ts : List Spelled) → Sound a ts (read a ts)) (n : ℕ) (ts : List Spelled)
    → Sound (Many a) ts (read_many (read a) (begins a) n ts)
many_sound a h zero ts = (none, refl)
many_sound a h (suc n) ts = grind (arith, turn_sound, item_sound, many_sound a h n)

pub sound : (g : Grammar) (ts : List Spelled) → Sound g ts (read g ts)
sound (One c) [] = ([], refl, empty)
sound (One c) (t ∷ ts) = one_sound c t ts (fits c t.lexeme) refl
sound Nothing ts = (nothing, refl)
sound (a ⨾ b) ts = seq_sound a b ts (read a ts) (sound a ts) (sound b)
sound (a ∣ b) ts = choice_sound a b ts (next_fits (begins a) ts) (sound a ts) (sound b ts)
sound (Many a) ts = many_sound a (sound a) (length ts) ts
sound (Beyond c) [] = ([], refl, empty)
sound (Beyond c) (t ∷ ts) = grind (arith, empty)

-- what follows a part goes on with none of cs
pub follows : (cs : List Class) (b : Grammar) (vs us : List Spelled) → Starts b vs → all_apart cs (begins b) ≡ true
    → (can_be_empty b ≡ true → next_fits cs us ≡ false) → next_fits cs (vs ++ us) ≡ false
follows cs b vs us s h e = grind (arith, apart_other)

-- a part that is not empty begins with its first token
pub starts_next : (a : Grammar) (vs us : List Spelled) → Starts a vs → can_be_empty a ≡ false
    → next_fits (begins a) (vs ++ us) ≡ true
starts_next a vs us s h = grind arith

abbrev pub Complete : Grammar → Type 0
Complete g = (x : Tree) → IsTree g x → decides g ≡ true → (us : List Spelled) → next_fits (goes_on g) us ≡ false
    → read g (flatten x ++ us) ≡ Read x us

pub not_empty_longer : (a : Grammar) (vs us : List Spelled) → Starts a vs → can_be_empty a ≡ false
    → length us < length (vs ++ us)
not_empty_longer a vs us s h = grind (arith, length-append)

many_complete : (a : Grammar) → Complete a → decides a ≡ true → can_be_empty a ≡ false
    → all_apart (goes_on a) (begins a) ≡ true → (n : ℕ) (x : Tree)
    → IsTree (Many a) x → (us : List Spelled) → length (flatten x ++ us) ≤ n
    → next_fits (begins a ++ goes_on a) us ≡ false
    → read_many (read a) (begins a) n (flatten x ++ us) ≡ Read x us
many_complete a ih d e p zero _ none us l h = refl
many_complete a ih d e p (suc n) _ none us l h = grind (arith, next_append)
many_complete a ih d e p zero _ (more {x = x} {y = y} ix iy) us l h =
    grind (arith, append_assoc, not_empty_longer a (flatten x) (flatten y ++ us) (tree_starts ix))
many_complete a ih d e p (suc n) _ (more {x = x} {y = y} ix iy) us l h =
    grind (
      arith,
      append_assoc,
      next_append,
      not_empty_longer a (flatten x) (flatten y ++ us) (tree_starts ix),
      follows (goes_on a) (Many a) (flatten y) us (tree_starts iy),
      starts_next a (flatten x) (flatten y ++ us) (tree_starts ix),
      ih x ix d (flatten y ++ us),
      many_complete a ih d e p n y iy us,
    )

pub complete : (g : Grammar) → Complete g
complete (One c) _ (one h) d us n = grind arith
complete Nothing _ nothing d us n = refl
complete (a ⨾ b) _ (both {x = x} {y = y} ix iy) d us n =
    grind (
      arith,
      append_assoc,
      next_append,
      follows (goes_on a) b (flatten y) us (tree_starts iy),
      λ (e : decides a ≡ true). complete a x ix e (flatten y ++ us),
      complete b y iy,
    )
complete (a ∣ b) _ (first {x = x} ix) d us n =
    grind (arith, next_append, starts_next a (flatten x) us (tree_starts ix), complete a x ix)
complete (a ∣ b) _ (second {x = x} ix) d us n =
    grind (arith, next_append, follows (begins a) b (flatten x) us (tree_starts ix), complete b x ix)
complete (Many a) x ix d us n = grind (arith, many_complete a (complete a))
complete (Beyond c) x ix d us n = elim ix [ ]

-- at most n tokens are left
abbrev pub Left_at_most : ℕ → Outcome → Type 0
Left_at_most n (Read x us) = length us ≤ n
Left_at_most n (Stops d us) = length us ≤ n

-- reading a part goes past a front of the part
abbrev Reaches : Grammar → Type 0
Reaches g = (zs : List Spelled) → IsFront g zs → decides g ≡ true → (us : List Spelled)
    → Left_at_most (length us) (read g (zs ++ us))

any_left_of : (g : Grammar) (us : List Spelled) → Left_at_most (length us) (read g us)
any_left_of g us = grind (arith, length-append, sound g us)

then_left : (a b : Grammar) (n : ℕ) (us : List Spelled) → Left_at_most n (read a us) → Left_at_most n (read (a ⨾ b) us)
then_left a b n us h = grind (arith, any_left_of b)

many_left_of : (a : Grammar) (n : ℕ) (us : List Spelled) → Left_at_most (length us) (read_many (read a) (begins a) n us)
many_left_of a n us = grind (arith, length-append, many_sound a (sound a) n us)

turn_left : (a : Grammar) (m n : ℕ) (us : List Spelled) → next_fits (begins a) us ≡ true → Left_at_most n (read a us)
    → Left_at_most n (read_many (read a) (begins a) (suc m) us)
turn_left a m n us e h = grind (arith, many_left_of a m)

-- one item that is not whole
item_reach : (a : Grammar) → Reaches a → decides a ≡ true → (n : ℕ) (zs us : List Spelled) → IsFront a zs
    → length (zs ++ us) ≤ n
    → Left_at_most (length us) (read_many (read a) (begins a) n (zs ++ us))
item_reach a ha da n [] us f l = many_left_of a n us
item_reach a ha da zero (t ∷ zs) us f l = grind arith
item_reach a ha da (suc n) (t ∷ zs) us f l =
    turn_left a n (length us) ((t ∷ zs) ++ us) (front_opens f) (ha (t ∷ zs) f da us)

items_turn : (a : Grammar) → Reaches a → decides a ≡ true → can_be_empty a ≡ false
    → all_apart (goes_on a) (begins a) ≡ true → (x : Tree) → IsTree a x
    → (ws us : List Spelled) → Opens (Many a) ws
    → ((m : ℕ) → length (ws ++ us) ≤ m → Left_at_most (length us) (read_many (read a) (begins a) m (ws ++ us)))
    → (n : ℕ) → length (flatten x ++ (ws ++ us)) ≤ n
    → Left_at_most (length us) (read_many (read a) (begins a) n (flatten x ++ (ws ++ us)))
items_turn a ha da e p x ix [] us o h n l = item_reach a ha da n (flatten x) us (tree_front ix) l
items_turn a ha da e p x ix (t ∷ ws) us o h zero l =
    grind (arith, not_empty_longer a (flatten x) ((t ∷ ws) ++ us) (tree_starts ix) e)
items_turn a ha da e p x ix (t ∷ ws) us o h (suc n) l =
    grind (
      arith,
      not_empty_longer a (flatten x) ((t ∷ ws) ++ us) (tree_starts ix) e,
      starts_next a (flatten x) ((t ∷ ws) ++ us) (tree_starts ix) e,
      complete a x ix da ((t ∷ ws) ++ us),
      apart_other (goes_on a) (begins a) t.lexeme p o,
      h n,
    )

regroup : (a b c d : List Spelled) → ((a ++ b) ++ c) ++ d ≡ a ++ ((b ++ c) ++ d)
regroup a b c d = simp append_assoc

-- whole items and a front of one
items_reach : (a : Grammar) → Reaches a → decides a ≡ true → can_be_empty a ≡ false
    → all_apart (goes_on a) (begins a) ≡ true → (n : ℕ) (x : Tree)
    → IsTree (Many a) x → (vs : List Spelled) → IsFront a vs → (us : List Spelled)
    → length ((flatten x ++ vs) ++ us) ≤ n
    → Left_at_most (length us) (read_many (read a) (begins a) n ((flatten x ++ vs) ++ us))
items_reach a ha da e p n _ none vs f us l = item_reach a ha da n vs us f l
items_reach a ha da e p n _ (more {x = x} {y = y} ix iy) vs f us l = let q = regroup (flatten x) (flatten y) vs us in
    rw q (items_turn a ha da e p x ix (flatten y ++ vs) us (front_opens (items iy f refl))
    (λ m i. items_reach a ha da e p m y iy vs f us i) n (rw q at l))

pub reaches : (g : Grammar) → Reaches g
reaches g _ empty d us = any_left_of g us
reaches (One c) _ (token h) d us = grind arith
reaches (a ⨾ b) zs (within f) d us =
    grind (arith, then_left a b (length us) (zs ++ us), λ (e : decides a ≡ true). reaches a zs f e us)
reaches (a ⨾ b) zs (past {x = x} {us = []} ix f e) d us =
    grind (
      arith,
      append-nil,
      then_left a b (length us) (flatten x ++ us),
      λ (e : decides a ≡ true). reaches a (flatten x) (tree_front ix) e us,
    )
reaches (a ⨾ b) zs (past {x = x} {us = t ∷ vs} ix f e) d us =
    grind (
      arith,
      append_assoc,
      λ (e : decides a ≡ true). complete a x ix e ((t ∷ vs) ++ us),
      front_opens f,
      apart_other (goes_on a) (begins b) t.lexeme,
      λ (e : decides b ≡ true). reaches b (t ∷ vs) f e us,
    )
reaches (a ∣ b) [] (of_first f) d us = any_left_of (a ∣ b) us
reaches (a ∣ b) (t ∷ zs) (of_first f) d us =
    grind (arith, front_opens f, λ (e : decides a ≡ true). reaches a (t ∷ zs) f e us)
reaches (a ∣ b) [] (of_second f) d us = any_left_of (a ∣ b) us
reaches (a ∣ b) (t ∷ zs) (of_second f) d us =
    grind (
      arith,
      front_opens f,
      apart_other (begins a) (begins b) t.lexeme,
      λ (e : decides b ≡ true). reaches b (t ∷ zs) f e us,
    )
reaches (Many a) zs (items {x = x} {us = vs} ix f e) d us =
    grind (arith, λ (h : decides a ≡ true). items_reach a (reaches a) h)

-- A fault is where the fronts end.
pub record IsFault (g : Grammar) (ts us : List Spelled) : Type 0 where
  pub before : List Spelled
  pub parts : ts ≡ before ++ us
  pub front : IsFront g before
  pub no_further : (t : Spelled) (vs : List Spelled) → us ≡ t ∷ vs → IsFront g (before ++ (t ∷ [])) → ⊥

no_front : (g : Grammar) (o : Outcome) (fs : List Spelled) (t : Spelled) (vs : List Spelled) → decides g ≡ true
    → read g (fs ++ (t ∷ vs)) ≡ o → (Left_at_most (length vs) o → ⊥) → IsFront g (fs ++ (t ∷ [])) → ⊥
no_front g o fs t vs h e n f = grind (arith, append_assoc, reaches g (fs ++ (t ∷ [])) f h vs)

fault_of : (g : Grammar) (ts : List Spelled) (b : Bool) (us : List Spelled) → decides g ≡ true → (o : Outcome)
    → read g ts ≡ o → ended o ≡ Stops b us → Sound g ts o → IsFault g ts us
fault_of g ts b us h (Read x []) q e s = cc
-- a token that is left after a tree is the fault too
fault_of g ts b us h (Read x (u ∷ vs)) q e (ix, p) = record {
  before = flatten x;
  parts = cc;
  front = tree_front ix;
  no_further =
      λ t ws r. no_front g (Read x (u ∷ vs)) (flatten x) t ws h (cc) (λ l. grind arith);
}
fault_of g ts b us h (Stops d vs) q e (fs, p, f) = record {
  before = fs;
  parts = cc;
  front = f;
  no_further =
      λ t ws r. no_front g (Stops d vs) fs t ws h (cc) (λ l. grind arith);
}

pub fault_found : (g : Grammar) (ts : List Spelled) (b : Bool) (us : List Spelled) → decides g ≡ true
    → ended (read g ts) ≡ Stops b us → IsFault g ts us
fault_found g ts b us h e = fault_of g ts b us h (read g ts) refl e (sound g ts)

-- what is read is spelled so
pub read_found : (g : Grammar) (ts : List Spelled) (x : Tree) (us : List Spelled) → read g ts ≡ Read x us
    → IsTree g x × (ts ≡ flatten x ++ us)
read_found g ts x us e = subst (Sound g ts) e (sound g ts)

-- what is spelled so is read
pub read_again : (g : Grammar) (x : Tree) → decides g ≡ true → IsTree g x → read g (flatten x) ≡ Read x []
read_again g x h i = subst (λ ts. read g ts ≡ Read x []) (append-nil (flatten x)) (complete g x i h [] refl)

-- a list of tokens has at most one tree
pub one_tree : (g : Grammar) (x y : Tree) → decides g ≡ true → IsTree g x → IsTree g y → flatten x ≡ flatten y → x ≡ y
one_tree g x y h i j e = cc (read_again g x h i, read_again g y h j)
