-- Where a grammar leads the watch, by its classes alone.
use Rattle.std.specs.Prelude.{◌≡◌, Bool, true, false, cond, List, [], ◌∷◌, ◌++◌}
use Rattle.std.proofs.Common.{refl}
use Rattle.proto_syntax.proofs.Begins.{apart_means}
use Rattle.proto_syntax.specs.Grammar.{Class, fits, Grammar, One, Nothing, ◌⨾◌, ◌∣◌, Many, Beyond, Tree, flatten, IsTree, one, nothing, both, first, second, none, more}
use Rattle.proto_syntax.specs.Reading.{apart}
use Rattle.proto_tokens.specs.Token.{Lexeme, Spelled}
use Rattle.skipping_laws.proofs.Watch.{State, Inside, Found, Turn, special, general, look, step, watch, watch_append, under, under_each, under_found, under_same, under_watch}

-- a state that finds what both find
abbrev pub join : State → State → State
join s t = cond (under s t) t (cond (under t s) s Found)

abbrev pub leads : List Turn → Class → State
leads [] c = Inside
leads ((d, s) ∷ turns) c = cond (apart c d) (leads turns c) (join s (leads turns c))

abbrev pub turns_of : State → List Turn
turns_of s = special s ++ general

-- the state behind one token of a class
abbrev pub one_ends : State → Class → State
one_ends Found c = Found
one_ends s c = leads (turns_of s) c

abbrev pub ends : Grammar → State → State
ends (One c) s = one_ends s c
ends Nothing s = s
ends (a ⨾ b) s = ends b (ends a s)
ends (a ∣ b) s = join (ends a s) (ends b s)
ends (Many a) s = cond (under (ends a s) s) s Found
ends (Beyond c) s = s

-- ---- what is joined

join_first : (s t : State) (b c : Bool) → under s t ≡ b → under t s ≡ c → under s (cond b t (cond c s Found)) ≡ true
join_first s t true c h k = h
join_first s t false true h k = under_same s
join_first s t false false h k = under_found s

join_second : (s t : State) (b c : Bool) → under s t ≡ b → under t s ≡ c → under t (cond b t (cond c s Found)) ≡ true
join_second s t true c h k = under_same t
join_second s t false true h k = k
join_second s t false false h k = under_found t

join_left : (r s t : State) → under r s ≡ true → under r (join s t) ≡ true
join_left r s t h = under_each r s (join s t) h (join_first s t (under s t) (under t s) refl refl)

join_right : (r s t : State) → under r t ≡ true → under r (join s t) ≡ true
join_right r s t h = under_each r t (join s t) h (join_second s t (under s t) (under t s) refl refl)

-- ---- one token

turn_by : (is_apart does_fit : Bool) (s l t : State) → (is_apart ≡ true → does_fit ≡ false) → under l t ≡ true
    → under (cond does_fit s l) (cond is_apart t (join s t)) ≡ true
turn_by true true s l t h k = let e = h refl in cc
turn_by true false s l t h k = k
turn_by false true s l t h k = join_left s s t (under_same s)
turn_by false false s l t h k = join_right l s t k

look_leads : (turns : List Turn) (c : Class) (w : Lexeme) → fits c w ≡ true
    → under (look turns w) (leads turns c) ≡ true
look_leads [] c w h = refl
look_leads ((d, s) ∷ turns) c w h = turn_by (apart c d) (fits d w) s (look turns w) (leads turns c)
    (λ k. apart_means c d w k h) (look_leads turns c w h)

step_ends : (s : State) (c : Class) (w : Lexeme) → fits c w ≡ true → under (step s w) (one_ends s c) ≡ true
step_ends Found c w h = refl
step_ends s c w h = look_leads (special s ++ general) c w h

-- ---- trees

-- the watch over a tree
abbrev pub over : State → Tree → State
over s x = watch s (flatten x)

then_ends : (s t u : State) (ts us : List Spelled) → under (watch s ts) t ≡ true → under (watch t us) u ≡ true
    → under (watch s (ts ++ us)) u ≡ true
then_ends s t u ts us h k =
    rw (watch_append s ts us) (under_each (watch (watch s ts) us) (watch t us) u (under_watch (watch s ts) t us h) k)

many_ends : (a : Grammar) (s : State) (b : Bool) (ts us : List Spelled) → under (ends a s) s ≡ b
    → under (watch s ts) (ends a s) ≡ true → under (watch s us) (cond b s Found) ≡ true
    → under (watch s (ts ++ us)) (cond b s Found) ≡ true
many_ends a s true ts us e h k = then_ends s s s ts us (under_each (watch s ts) (ends a s) s h e) k
many_ends a s false ts us e h k = under_found (watch s (ts ++ us))

stays_ends : (s : State) (b : Bool) → under s (cond b s Found) ≡ true
stays_ends s true = under_same s
stays_ends s false = under_found s

pub tree_ends : {g : Grammar} {x : Tree} → IsTree g x → (s : State) → under (over s x) (ends g s) ≡ true
tree_ends (one {c = c} {t = t} h) s = step_ends s c t.lexeme h
tree_ends nothing s = under_same s
tree_ends (both {a = a} {b = b} {x = x} {y = y} ix iy) s = then_ends s (ends a s) (ends b (ends a s)) (flatten x)
    (flatten y) (tree_ends ix s) (tree_ends iy (ends a s))
tree_ends (first {a = a} {b = b} {x = x} ix) s = join_left (over s x) (ends a s) (ends b s) (tree_ends ix s)
tree_ends (second {a = a} {b = b} {x = x} ix) s = join_right (over s x) (ends a s) (ends b s) (tree_ends ix s)
tree_ends (none {a = a}) s = stays_ends s (under (ends a s) s)
tree_ends (more {a = a} {x = x} {y = y} ix iy) s = many_ends a s (under (ends a s) s) (flatten x) (flatten y) refl
    (tree_ends ix s) (tree_ends iy s)
