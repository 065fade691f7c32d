-- Classes that are apart have no token in common; what a tree and a front begin with.
use Rattle.proto_syntax.proofs.Common.{◌≡◌, ℕ, true, false, not, List, [], ◌∷◌, sym, arith, ◌||◌, ◌++◌, refl, append-nil, bytes_eq-Decides, Lexeme, Spelled, Class, among, fits, Grammar, Tree, flatten, IsTree, one, nothing, both, first, second, none, more, IsFront, empty, token, within, past, of_first, of_second, items, none_among, all_among, apart, begins, can_be_empty, fits_any, next_fits, apart_from_all, all_apart}
use Rattle.std.proofs.lemmas.Bool.{both_ways, not-true, not_from_true, false_from_ne_true, eqb-true}

-- a word among one list is not among another that shares none with it
none_among_same : (u : List ℕ) (ws vs : List (List ℕ)) → none_among ws vs ≡ true → among u ws ≡ true
    → among u vs ≡ false
none_among_same u [] vs h i = cc
none_among_same u (w ∷ ws) vs h i = grind (arith, bytes_eq-Decides u w, none_among_same u ws vs)

all_among_same : (u : List ℕ) (ws vs : List (List ℕ)) → all_among ws vs ≡ true → among u ws ≡ true → among u vs ≡ true
all_among_same u [] vs h i = cc
all_among_same u (w ∷ ws) vs h i = grind (arith, bytes_eq-Decides u w, all_among_same u ws vs)

-- u is not among ws, all of which are among vs, if it is not among vs
not_all_among : (u : List ℕ) (ws vs : List (List ℕ)) → all_among ws vs ≡ true → not (among u vs) ≡ true
    → among u ws ≡ false
not_all_among u ws vs h i = grind (arith, false_from_ne_true, both_ways, not-true, all_among_same)

pub apart_means : (c d : Class) (w : Lexeme) → apart c d ≡ true → fits c w ≡ true → fits d w ≡ false
apart_means c d w h i =
    grind (arith, none_among_same, not_from_true, all_among_same, not_all_among, false_from_ne_true, not-true, eqb-true)

fits_append : (cs ds : List Class) (w : Lexeme) → fits_any (cs ++ ds) w ≡ (fits_any cs w || fits_any ds w)
fits_append [] ds w = refl
fits_append (c ∷ cs) ds w = grind (arith, fits_append cs ds w)

pub next_append : (cs ds : List Class) (ts : List Spelled)
    → next_fits (cs ++ ds) ts ≡ (next_fits cs ts || next_fits ds ts)
next_append cs ds ts = grind (arith, fits_append)

apart_each : (c : Class) (ds : List Class) (w : Lexeme) → apart_from_all c ds ≡ true → fits_any ds w ≡ true
    → fits c w ≡ false
apart_each c [] w h i = cc
apart_each c (d ∷ ds) w h i = grind (arith, apart_means c d w, apart_each c ds w)

-- a token that fits one of the second is none of the first
pub apart_other : (cs ds : List Class) (w : Lexeme) → all_apart cs ds ≡ true → fits_any ds w ≡ true
    → fits_any cs w ≡ false
apart_other [] ds w h i = refl
apart_other (c ∷ cs) ds w h i = grind (arith, apart_each c ds w, apart_other cs ds w)

-- what a list of tokens of the rule begins with: nothing, if the rule can be empty, or a token that fits
abbrev pub Starts : Grammar → List Spelled → Type 0
Starts g [] = can_be_empty g ≡ true
Starts g (t ∷ ts) = fits_any (begins g) t.lexeme ≡ true

pub tree_starts : {g : Grammar} {x : Tree} → IsTree g x → Starts g (flatten x)
tree_starts (one h) = grind arith
tree_starts nothing = refl
tree_starts (both ix iy) = grind (arith, fits_append, tree_starts ix, tree_starts iy)
tree_starts (first ix) = grind (arith, fits_append, tree_starts ix)
tree_starts (second ix) = grind (arith, fits_append, tree_starts ix)
tree_starts none = refl
tree_starts (more ix iy) = grind (arith, tree_starts ix, tree_starts iy)

-- what a front begins with, unless it is empty
abbrev pub Opens : Grammar → List Spelled → Type 0
Opens g [] = Unit {0}
Opens g (t ∷ ts) = fits_any (begins g) t.lexeme ≡ true

pub front_opens : {g : Grammar} {ts : List Spelled} → IsFront g ts → Opens g ts
front_opens empty = tt
front_opens (token h) = grind arith
front_opens (within f) = grind (arith, fits_append, front_opens f)
front_opens (past ix f e) = grind (arith, fits_append, tree_starts ix, front_opens f)
front_opens (of_first f) = grind (arith, fits_append, front_opens f)
front_opens (of_second f) = grind (arith, fits_append, front_opens f)
front_opens (items ix f e) = grind (arith, tree_starts ix, front_opens f)

-- a tree's tokens are a front
pub tree_front : {g : Grammar} {x : Tree} → IsTree g x → IsFront g (flatten x)
tree_front (one h) = token h
tree_front nothing = empty
tree_front (both ix iy) = past ix (tree_front iy) refl
tree_front (first ix) = of_first (tree_front ix)
tree_front (second ix) = of_second (tree_front ix)
tree_front none = empty
tree_front (more {x = x} {y = y} ix iy) = items (more ix iy) empty (sym (append-nil (flatten x ++ flatten y)))
