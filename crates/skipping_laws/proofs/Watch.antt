-- A watch over tokens, from left to right: it finds where something that goes may begin.
use Rattle.std.specs.Prelude.{◌≡◌, Bool, true, false, ◌&&◌, cond, codes, List, [], ◌∷◌, ◌++◌, map}
use Rattle.std.proofs.Common.{refl, sym, ap, ◌∙◌}
use Rattle.proto_syntax.specs.Grammar.{Class, OneOf, NoneOf, AnyNumber, AnyString, Symbol, fits}
use Rattle.proto_tokens.specs.Token.{Lexeme, identifier, number, string_literal, punctuation, Spelled}
use Rattle.source_skip.specs.Shapes.{unwritten, unwritten_of_fields}

-- What stands before a token: nothing that matters; where a statement begins, nothing, `option`, `extend`, `import`, or
-- `import weak`; `[` or a comma; this and a word that goes; or something that goes may have begun.
pub data State : Type 0 where
  Inside : State
  Start : State
  BehindOption : State
  BehindExtend : State
  BehindImport : State
  BehindWeak : State
  BehindSeparator : State
  BehindUnwritten : State
  Found : State

-- a token of the class leads to this state
abbrev pub Turn : Type 0
Turn = Class × State

abbrev pub special : State → List Turn
special Inside = []
special Start =
    (OneOf (codes "option" ∷ []), BehindOption) ∷ (OneOf (codes "extend" ∷ []), BehindExtend)
    ∷ (OneOf (codes "import" ∷ []), BehindImport) ∷ []
special BehindOption = (Symbol 40, Found) ∷ (OneOf unwritten, Found) ∷ []
special BehindExtend = (Symbol 46, Found) ∷ (NoneOf [], Found) ∷ []
special BehindImport = (OneOf (codes "weak" ∷ []), BehindWeak) ∷ []
special BehindWeak = (AnyString, Found) ∷ []
special BehindSeparator = (Symbol 40, Found) ∷ (OneOf unwritten_of_fields, BehindUnwritten) ∷ []
special BehindUnwritten = (Symbol 61, Found) ∷ []
special Found = []

-- the same wherever a token stands: `;`, `{`, `}`, `[` and a comma
abbrev pub general : List Turn
general = (Symbol 59, Start) ∷ (Symbol 123, Start) ∷ (Symbol 125, Start) ∷ (Symbol 91, BehindSeparator)
    ∷ (Symbol 44, BehindSeparator) ∷ []

-- where the first of these turns that fits the token leads
abbrev pub look : List Turn → Lexeme → State
look [] w = Inside
look ((c, s) ∷ turns) w = cond (fits c w) s (look turns w)

abbrev pub step : State → Lexeme → State
step Found w = Found
step s w = look (special s ++ general) w

abbrev pub watch : State → List Spelled → State
watch s [] = s
watch s (t ∷ ts) = watch (step s t.lexeme) ts

pub watch_append : (s : State) (ts us : List Spelled) → watch s (ts ++ us) ≡ watch (watch s ts) us
watch_append s [] us = refl
watch_append s (t ∷ ts) us = watch_append (step s t.lexeme) ts us

-- ---- which state says more

-- what the first finds, the second finds
abbrev pub under : State → State → Bool
under Inside t = true
under s Found = true
under Start Start = true
under BehindOption BehindOption = true
under BehindExtend BehindExtend = true
under BehindImport BehindImport = true
under BehindImport BehindExtend = true
under BehindWeak BehindWeak = true
under BehindSeparator BehindSeparator = true
under BehindUnwritten BehindUnwritten = true
under s t = false

pub under_found : (s : State) → under s Found ≡ true
under_found Inside = refl
under_found Start = refl
under_found BehindOption = refl
under_found BehindExtend = refl
under_found BehindImport = refl
under_found BehindWeak = refl
under_found BehindSeparator = refl
under_found BehindUnwritten = refl
under_found Found = refl

pub under_same : (s : State) → under s s ≡ true
under_same Inside = refl
under_same Start = refl
under_same BehindOption = refl
under_same BehindExtend = refl
under_same BehindImport = refl
under_same BehindWeak = refl
under_same BehindSeparator = refl
under_same BehindUnwritten = refl
under_same Found = refl

pub found_under : (s : State) → under Found s ≡ true → s ≡ Found
found_under Found h = refl
found_under s h = cc

pub under_each : (s t u : State) → under s t ≡ true → under t u ≡ true → under s u ≡ true
under_each Inside t u h k = refl
under_each s t Found h k = under_found s
under_each Start Start u h k = k
under_each BehindOption BehindOption u h k = k
under_each BehindExtend BehindExtend u h k = k
under_each BehindImport BehindImport u h k = k
under_each BehindImport BehindExtend BehindExtend h k = refl
under_each BehindWeak BehindWeak u h k = k
under_each BehindSeparator BehindSeparator u h k = k
under_each BehindUnwritten BehindUnwritten u h k = k
under_each Found Found u h k = k
under_each s t u h k = cc

-- a turn that finds something, or that a word makes, says no less than the general ones
abbrev says_more : Class → State → Bool
says_more c Found = true
says_more (OneOf ws) s = true
says_more c s = false

abbrev all_say_more : List Turn → Bool
all_say_more [] = true
all_say_more ((c, s) ∷ turns) = says_more c s && all_say_more turns

turn_more : (c : Class) (s : State) (w : Lexeme) → says_more c s ≡ true → fits c w ≡ true
    → under (look general w) s ≡ true
turn_more c Found w h k = under_found (look general w)
turn_more (OneOf ws) s (identifier u) h k = refl
turn_more c s w h k = cc

both_true : (p q : Bool) → (p && q) ≡ true → (p ≡ true) × (q ≡ true)
both_true true q h = (refl, h)
both_true false q h = cc

either_more : (c : Bool) (s t u : State) → (c ≡ true → under s t ≡ true) → under s u ≡ true
    → under s (cond c t u) ≡ true
either_more true s t u h k = h refl
either_more false s t u h k = k

general_less : (turns : List Turn) (w : Lexeme) → all_say_more turns ≡ true
    → under (look general w) (look (turns ++ general) w) ≡ true
general_less [] w h = under_same (look general w)
general_less ((c, s) ∷ turns) w h =
    let k = both_true (says_more c s) (all_say_more turns) h in
    either_more (fits c w) (look general w) s (look (turns ++ general) w) (turn_more c s w k.0)
    (general_less turns w k.1)

inside_less : (s : State) (w : Lexeme) → under (step Inside w) (step s w) ≡ true
inside_less Inside w = under_same (step Inside w)
inside_less Start w = general_less (special Start) w refl
inside_less BehindOption w = general_less (special BehindOption) w refl
inside_less BehindExtend w = general_less (special BehindExtend) w refl
inside_less BehindImport w = general_less (special BehindImport) w refl
inside_less BehindWeak w = general_less (special BehindWeak) w refl
inside_less BehindSeparator w = general_less (special BehindSeparator) w refl
inside_less BehindUnwritten w = general_less (special BehindUnwritten) w refl
inside_less Found w = under_found (step Inside w)

import_less : (w : Lexeme) → under (step BehindImport w) (step BehindExtend w) ≡ true
import_less (identifier u) = under_found (step BehindImport (identifier u))
import_less (number n) = refl
import_less (string_literal s) = refl
import_less (punctuation b) = general_less (special BehindExtend) (punctuation b) refl

pub under_step : (s t : State) (w : Lexeme) → under s t ≡ true → under (step s w) (step t w) ≡ true
under_step Inside t w h = inside_less t w
under_step s Found w h = under_found (step s w)
under_step Start Start w h = under_same (step Start w)
under_step BehindOption BehindOption w h = under_same (step BehindOption w)
under_step BehindExtend BehindExtend w h = under_same (step BehindExtend w)
under_step BehindImport BehindImport w h = under_same (step BehindImport w)
under_step BehindImport BehindExtend w h = import_less w
under_step BehindWeak BehindWeak w h = under_same (step BehindWeak w)
under_step BehindSeparator BehindSeparator w h = under_same (step BehindSeparator w)
under_step BehindUnwritten BehindUnwritten w h = under_same (step BehindUnwritten w)
under_step s t w h = cc

pub under_watch : (s t : State) (ts : List Spelled) → under s t ≡ true → under (watch s ts) (watch t ts) ≡ true
under_watch s t [] h = h
under_watch s t (u ∷ us) h = under_watch (step s u.lexeme) (step t u.lexeme) us (under_step s t u.lexeme h)

-- ---- where nothing is found

abbrev pub IsCalm : State → List Spelled → Type 0
IsCalm s ts = watch s ts ≡ Found → ⊥

pub calm_under : (s t : State) (ts : List Spelled) → under s t ≡ true → IsCalm t ts → IsCalm s ts
calm_under s t ts h calm found =
    calm (found_under (watch t ts) (rw found at (under_watch s t ts h)))

found_watch : (ts : List Spelled) → watch Found ts ≡ Found
found_watch [] = refl
found_watch (t ∷ ts) = found_watch ts

pub calm_state : (s : State) (ts : List Spelled) → IsCalm s ts → s ≡ Found → ⊥
calm_state s ts calm h = calm (rw h (found_watch ts))

-- ---- what is watched of a token

-- a token without the value of a number or a string
abbrev pub plain : Lexeme → Lexeme
plain (identifier w) = identifier w
plain (number n) = number 0
plain (string_literal s) = string_literal []
plain (punctuation b) = punctuation b

abbrev pub plain_of : Spelled → Lexeme
plain_of t = plain t.lexeme

fits_plain : (c : Class) (w : Lexeme) → fits c (plain w) ≡ fits c w
fits_plain (OneOf ws) (identifier w) = refl
fits_plain (NoneOf ws) (identifier w) = refl
fits_plain AnyNumber (number n) = refl
fits_plain AnyString (string_literal s) = refl
fits_plain (Symbol b) (punctuation c) = refl
fits_plain c w = refl

look_plain : (turns : List Turn) (w : Lexeme) → look turns (plain w) ≡ look turns w
look_plain [] w = refl
look_plain ((c, s) ∷ turns) w = rw (fits_plain c w, look_plain turns w) refl

step_plain : (s : State) (w : Lexeme) → step s (plain w) ≡ step s w
step_plain Found w = refl
step_plain s w = look_plain (special s ++ general) w

watch_plain : State → List Lexeme → State
watch_plain s [] = s
watch_plain s (w ∷ ws) = watch_plain (step s w) ws

watched_plain : (s : State) (ts : List Spelled) → watch_plain s (map plain_of ts) ≡ watch s ts
unfolding watch_plain
watched_plain s [] = refl
watched_plain s (t ∷ ts) =
    ap (λ x. watch_plain x (map plain_of ts)) (step_plain s t.lexeme) ∙ watched_plain (step s t.lexeme) ts

-- lists that differ in the values of numbers and strings alone are watched alike
pub watch_same : (s : State) (ts us : List Spelled) → map plain_of ts ≡ map plain_of us → watch s ts ≡ watch s us
watch_same s ts us h = sym (watched_plain s ts) ∙ ap (watch_plain s) h ∙ watched_plain s us
