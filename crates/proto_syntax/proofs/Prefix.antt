-- What a front begins with is a front, so a list of tokens has at most one fault.
use Rattle.proto_syntax.proofs.Common.{true, append_assoc, ◌≡◌, ◌⊎◌, inl, inr, ℕ, ◌≤◌, ◌<◌, List, [], ◌∷◌, ◌++◌, take, drop, refl, sym, ◌∙◌, ap, subst, arith, take-append-drop, take-take, Spelled, Class, fits, Grammar, One, ◌⨾◌, ◌∣◌, Many, Tree, flatten, IsTree, none, more, IsFront, empty, token, within, past, of_first, of_second, items, IsFaultAt}
use Rattle.proto_syntax.proofs.Begins.{tree_front}
use Rattle.proto_syntax.proofs.Reach.{after_item}

-- two cuts of one list
abbrev Cuts : (us vs a b : List Spelled) → Type 0
Cuts us vs a b = ((c : List Spelled) × (us ≡ a ++ c)) ⊎ ((c : List Spelled) × (a ≡ us ++ c) × (vs ≡ c ++ b))

cuts_more : (t u : Spelled) (us vs a b : List Spelled) → t ≡ u → Cuts us vs a b → Cuts (t ∷ us) vs (u ∷ a) b
cuts_more t u us vs a b h i = grind arith

cuts : (us vs a b : List Spelled) → us ++ vs ≡ a ++ b → Cuts us vs a b
cuts [] vs a b e = inr (a, refl, e)
cuts (t ∷ us) vs [] b e = inl (t ∷ us, refl)
cuts (t ∷ us) vs (u ∷ a) b e =
    let p : us ++ vs ≡ a ++ b = cc in
    let q : t ≡ u = cc in
    cuts_more t u us vs a b q (cuts us vs a b p)

abbrev Closed : Grammar → Type 0
Closed g = (ts : List Spelled) → IsFront g ts → (a b : List Spelled) → ts ≡ a ++ b → IsFront g a

one_prefix : (c : Class) (t : Spelled) → fits c t.lexeme ≡ true → (a b : List Spelled) → t ∷ [] ≡ a ++ b
    → IsFront (One c) a
one_prefix c t h [] b e = empty
one_prefix c t h (u ∷ []) b e = let p : t ≡ u = cc in subst (λ z. IsFront (One c) (z ∷ [])) p (token h)
one_prefix c t h (u ∷ v ∷ a) b e = cc

past_prefix : (g h : Grammar) → Closed g → Closed h → (x : Tree) (us : List Spelled) → IsTree g x → IsFront h us
    → (a b : List Spelled)
    → Cuts (flatten x) us a b → IsFront (g ⨾ h) a
past_prefix g h p q x us ix f a b (inl (c, e)) = within (p (flatten x) (tree_front ix) a c e)
past_prefix g h p q x us ix f a b (inr (c, e, k)) = past ix (q us f c b k) e

more_prefix : (g : Grammar) → Closed g → (x y : Tree) → IsTree g x → (us : List Spelled) (a b : List Spelled)
    → ((c d : List Spelled) → flatten y ++ us ≡ c ++ d → IsFront (Many g) c) → Cuts (flatten x) (flatten y ++ us) a b
    → IsFront (Many g) a
more_prefix g p x y ix us a b h (inl (c, k)) = items none (p (flatten x) (tree_front ix) a c k) refl
more_prefix g p x y ix us a b h (inr (c, k, l)) = subst (IsFront (Many g)) (sym k) (after_item g x c ix (h c b l))

items_prefix : (g : Grammar) → Closed g → (x : Tree) → IsTree (Many g) x → (us : List Spelled) → IsFront g us
    → (a b : List Spelled) → flatten x ++ us ≡ a ++ b
    → IsFront (Many g) a
items_prefix g p _ none us f a b e = items none (p us f a b e) refl
items_prefix g p _ (more {x = x} {y = y} ix iy) us f a b e =
    more_prefix g p x y ix us a b (λ c d. items_prefix g p y iy us f c d)
    (cuts (flatten x) (flatten y ++ us) a b (sym (append_assoc (flatten x) (flatten y) us) ∙ e))

pub closed : (g : Grammar) → Closed g
closed g _ f [] b e = empty
closed g _ empty (t ∷ a) b e = cc
closed (One c) _ (token {t = t} h) a b e = one_prefix c t h a b e
closed (g ⨾ h) ts (within f) a b e = within (closed g ts f a b e)
closed (g ⨾ h) ts (past {x = x} {us = us} ix f k) a b e =
    past_prefix g h (closed g) (closed h) x us ix f a b (cuts (flatten x) us a b (sym k ∙ e))
closed (g ∣ h) ts (of_first f) a b e = of_first (closed g ts f a b e)
closed (g ∣ h) ts (of_second f) a b e = of_second (closed h ts f a b e)
closed (Many g) ts (items {x = x} {us = us} ix f k) a b e = items_prefix g (closed g) x ix us f a b (sym k ∙ e)

shorter_front : (g : Grammar) (ts : List Spelled) (j k : ℕ) → j ≤ k → IsFront g (take k ts) → IsFront g (take j ts)
shorter_front g ts j k h f =
    closed g (take k ts) f (take j ts) (drop j (take k ts))
    (sym (take-append-drop j (take k ts)) ∙ ap (λ z. z ++ drop j (take k ts)) (take-take j k ts h))

no_earlier : (limit : ℕ) (ts : List Spelled) (j k : ℕ) → IsFaultAt limit ts j → IsFaultAt limit ts k → j < k → ⊥
no_earlier limit ts j k h i l = grind (arith, shorter_front)

pub one_fault : (limit : ℕ) (ts : List Spelled) (j k : ℕ) → IsFaultAt limit ts j → IsFaultAt limit ts k → j ≡ k
one_fault limit ts j k h i = grind (arith, no_earlier)
