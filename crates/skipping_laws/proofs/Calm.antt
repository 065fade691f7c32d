-- Where the watch finds nothing, nothing goes.
use Rattle.std.specs.Prelude.{◌≡◌, ℕ, zero, suc, Bool, true, false, ◌||◌, cond, codes, List, [], ◌∷◌, ◌++◌, length, Option, None, Some, option_map, option_and_then, unwrap_or}
use Rattle.std.proofs.Common.{refl}
use Rattle.std.specs.Option.{option_or}
use Rattle.proto_syntax.proofs.Begins.{apart_means}
use Rattle.proto_syntax.specs.Grammar.{OneOf, NoneOf, AnyString, Symbol, fits}
use Rattle.proto_tokens.specs.Token.{Spelled}
use Rattle.source_skip.proofs.Behind.{IsTail, here, later}
use Rattle.source_skip.proofs.Entries.{EntryTail, entry_tail}
use Rattle.source_skip.proofs.Fronts.{FrontRest, front_rest}
use Rattle.source_skip.specs.Shapes.{Shape, One, ◌⨾◌, Braces, Optional, behind, full, is_symbol, leaving, leaving_name, option_statement, extend_statement, statement, staying, symbol, unwritten, unwritten_of_fields, value, weak, word}
use Rattle.source_skip.specs.Skipped.{Brackets, Entry, Front, all_go, before, brackets, brackets_front, entry_of, front_of, goes, goes_from, gone_later, gone_within, start_front, token_front, with_entry}
use Rattle.skipping_laws.proofs.Watch.{State, Inside, Start, BehindOption, BehindExtend, BehindImport, BehindWeak, BehindSeparator, BehindUnwritten, Found, step, under, IsCalm, calm_under, calm_state}

-- ---- one token more

calm_next : (s u : State) (t : Spelled) (ts : List Spelled) → step s t.lexeme ≡ u → IsCalm s (t ∷ ts) → IsCalm u ts
calm_next s u t ts e calm found = calm (rw e found)

calm_at : (s : State) (t : Spelled) (ts : List Spelled) → IsCalm s (t ∷ ts) → step s t.lexeme ≡ Found → ⊥
calm_at s t ts calm e = calm_state (step s t.lexeme) ts calm e

inside_calm : (s : State) (ts : List Spelled) → IsCalm s ts → IsCalm Inside ts
inside_calm s ts = calm_under Inside s ts refl

calm_tail : (s : State) (us ts : List Spelled) → IsTail us ts → IsCalm s ts → IsCalm Inside us
calm_tail s us _ here calm = inside_calm s us calm
calm_tail s us (t ∷ ts) (later l) calm = calm_tail (step s t.lexeme) us ts l calm

false_unless : (b : Bool) → (b ≡ true → ⊥) → b ≡ false
false_unless true h = absurd (h refl)
false_unless false h = refl

-- ---- rules of which nothing stands there

-- behind a first token nothing stands
behind_first : (f : List Spelled → Option (List Spelled)) (c : Bool) (ts : List Spelled) → (c ≡ true → f ts ≡ None)
    → option_and_then f (cond c (Some ts) None) ≡ None
behind_first f true ts h = h refl
behind_first f false ts h = refl

part_none : (a b : Shape) (ts : List Spelled) → behind a ts ≡ None → behind (a ⨾ b) ts ≡ None
part_none a b ts h = rw h refl

name_none : (words : List (List ℕ)) (b : Spelled) (ts : List Spelled) → is_symbol 40 b ≡ false
    → fits (OneOf words) b.lexeme ≡ false → behind (leaving_name words) (b ∷ ts) ≡ None
name_none words b ts h k = rw (h, k) refl

or_none : (o p : Option (List Spelled)) → o ≡ None → p ≡ None → option_or o p ≡ None
or_none None p h k = k
or_none (Some us) p h k = cc

-- behind `option`
option_none : (ts : List Spelled) → IsCalm BehindOption ts → behind (leaving unwritten ⨾ symbol ";") ts ≡ None
option_none [] calm = refl
option_none (b ∷ ts) calm =
    let p : is_symbol 40 b ≡ false = false_unless (is_symbol 40 b) (λ h. calm_at BehindOption b ts calm (rw h refl)) in
    let q : fits (OneOf unwritten) b.lexeme ≡ false =
    false_unless (fits (OneOf unwritten) b.lexeme) (λ h. calm_at BehindOption b ts calm (rw (p, h) refl)) in
    part_none (leaving unwritten) (symbol ";") (b ∷ ts)
    (part_none (leaving_name unwritten) (symbol "=" ⨾ value) (b ∷ ts) (name_none unwritten b ts p q))

no_option : (ts : List Spelled) → IsCalm Start ts → behind option_statement ts ≡ None
no_option [] calm = refl
no_option (a ∷ ts) calm = behind_first (behind (leaving unwritten ⨾ symbol ";"))
    (fits (OneOf (codes "option" ∷ [])) a.lexeme) ts
    (λ h. option_none ts (calm_next Start BehindOption a ts (rw h refl) calm))

-- behind `extend`
extend_none : (ts : List Spelled) → IsCalm BehindExtend ts → behind (Optional (symbol ".") ⨾ full ⨾ Braces) ts ≡ None
extend_none [] calm = refl
extend_none (b ∷ ts) calm =
    let p : is_symbol 46 b ≡ false = false_unless (is_symbol 46 b) (λ h. calm_at BehindExtend b ts calm (rw h refl)) in
    let q : fits (NoneOf []) b.lexeme ≡ false =
    false_unless (fits (NoneOf []) b.lexeme) (λ h. calm_at BehindExtend b ts calm (rw (p, h) refl)) in
    rw (p, q) refl

no_extend : (ts : List Spelled) → IsCalm Start ts → behind extend_statement ts ≡ None
no_extend [] calm = refl
no_extend (a ∷ ts) calm = behind_first (behind (Optional (symbol ".") ⨾ full ⨾ Braces))
    (fits (OneOf (codes "extend" ∷ [])) a.lexeme) ts
    (λ h. extend_none ts (calm_next Start BehindExtend a ts
    (rw (apart_means (OneOf (codes "extend" ∷ [])) (OneOf (codes "option" ∷ [])) a.lexeme refl h, h) refl) calm))

no_statement : (ts : List Spelled) → IsCalm Start ts → behind statement ts ≡ None
no_statement ts calm =
    or_none (behind option_statement ts) (behind extend_statement ts) (no_option ts calm) (no_extend ts calm)

-- behind `import`
path_none : (ts : List Spelled) → IsCalm BehindWeak ts → behind (One AnyString) ts ≡ None
path_none [] calm = refl
path_none (c ∷ ts) calm =
    let p : fits AnyString c.lexeme ≡ false =
    false_unless (fits AnyString c.lexeme) (λ h. calm_at BehindWeak c ts calm (rw h refl)) in
    rw p refl

weak_none : (ts : List Spelled) → IsCalm BehindImport ts → behind (word "weak" ⨾ One AnyString) ts ≡ None
weak_none [] calm = refl
weak_none (b ∷ ts) calm = behind_first (behind (One AnyString)) (fits (OneOf (codes "weak" ∷ [])) b.lexeme) ts
    (λ h. path_none ts (calm_next BehindImport BehindWeak b ts (rw h refl) calm))

no_weak : (ts : List Spelled) → IsCalm Start ts → behind weak ts ≡ None
no_weak [] calm = refl
no_weak (a ∷ ts) calm = behind_first (behind (word "weak" ⨾ One AnyString))
    (fits (OneOf (codes "import" ∷ [])) a.lexeme) ts
    (λ h. weak_none ts (calm_next Start BehindImport a ts
    (rw (
      apart_means (OneOf (codes "import" ∷ [])) (OneOf (codes "option" ∷ [])) a.lexeme refl h,
      apart_means (OneOf (codes "import" ∷ [])) (OneOf (codes "extend" ∷ [])) a.lexeme refl h,
      h,
    ) refl) calm))

-- behind `[` or a comma
equals_none : (ts : List Spelled) → IsCalm BehindUnwritten ts → behind (symbol "=" ⨾ value) ts ≡ None
equals_none [] calm = refl
equals_none (c ∷ ts) calm =
    let p : is_symbol 61 c ≡ false =
    false_unless (is_symbol 61 c) (λ h. calm_at BehindUnwritten c ts calm (rw h refl)) in
    rw p refl

setting_by : (word : Bool) (b : Spelled) (ts : List Spelled) → fits (OneOf unwritten_of_fields) b.lexeme ≡ word
    → is_symbol 40 b ≡ false → IsCalm BehindSeparator (b ∷ ts) → behind (leaving unwritten_of_fields) (b ∷ ts) ≡ None
setting_by true b ts h p calm =
    let none = equals_none ts (calm_next BehindSeparator BehindUnwritten b ts (rw (p, h) refl) calm) in
    rw (p, h) none
setting_by false b ts h p calm = part_none (leaving_name unwritten_of_fields) (symbol "=" ⨾ value) (b ∷ ts)
    (name_none unwritten_of_fields b ts p h)

no_leaving : (ts : List Spelled) → IsCalm BehindSeparator ts → behind (leaving unwritten_of_fields) ts ≡ None
no_leaving [] calm = refl
no_leaving (b ∷ ts) calm = setting_by (fits (OneOf unwritten_of_fields) b.lexeme) b ts refl
    (false_unless (is_symbol 40 b) (λ h. calm_at BehindSeparator b ts calm (rw h refl))) calm

-- ---- settings stay

abbrev Stays : Option Entry → Type 0
Stays None = Unit {0}
Stays (Some e) = e.goes ≡ false

staying_stays : (s : Spelled) (ts : List Spelled) (o : Option (List Spelled)) → Stays
    (option_map (λ rest. record { separator = s; setting = before ts rest; goes = false; rest = rest }) o)
staying_stays s ts None = tt
staying_stays s ts (Some us) = refl

entry_stays : (s : Spelled) (ts : List Spelled) → IsCalm BehindSeparator ts → Stays (entry_of s ts)
entry_stays s ts calm = rw (no_leaving ts calm) (staying_stays s ts (behind (staying unwritten_of_fields) ts))

record AllStay (es : List Entry) : Type 0 where
  some : all_go es ≡ false
  within : gone_within es ≡ []
  behind_others : gone_later true es ≡ []

abbrev BracketsStay : Option Brackets → Type 0
BracketsStay None = Unit {0}
BracketsStay (Some b) = AllStay b.entries

close_stays : (e : Entry) (o : Option (List Spelled)) → e.goes ≡ false
    → BracketsStay (option_map (λ rest. record { entries = e ∷ []; rest = rest }) o)
close_stays e None h = tt
close_stays e (Some us) h = record { some = rw h refl; within = rw h refl; behind_others = rw h refl }

more_stay : (e : Entry) (o : Option Brackets) → e.goes ≡ false → BracketsStay o
    → BracketsStay (option_map (λ b. record { entries = e ∷ b.entries; rest = b.rest }) o)
more_stay e None h k = tt
more_stay e (Some b) h k = record {
  some = rw h refl;
  within = rw h k.behind_others;
  behind_others = rw h k.behind_others;
}

either_stays : (o p : Option Brackets) → BracketsStay o → BracketsStay p → BracketsStay (option_or o p)
either_stays None p l m = m
either_stays (Some b) p l m = l

entry_then_stay : (most : ℕ) (ts : List Spelled) (o : Option Entry) → Stays o → EntryTail ts o
    → IsCalm BehindSeparator ts → ((us : List Spelled) → IsCalm Inside us → BracketsStay (brackets most 44 us))
    → BracketsStay (option_and_then (λ e. with_entry e (brackets most 44 e.rest)) o)
entry_then_stay most ts None l t calm m = tt
entry_then_stay most ts (Some e) l t calm m = either_stays
    (option_map (λ rest. record { entries = e ∷ []; rest = rest }) (behind (symbol "]") e.rest))
    (option_map (λ b. record { entries = e ∷ b.entries; rest = b.rest }) (brackets most 44 e.rest))
    (close_stays e (behind (symbol "]") e.rest) l)
    (more_stay e (brackets most 44 e.rest) l (m e.rest (calm_tail BehindSeparator e.rest ts t calm)))

cond_stays : (c : Bool) (o : Option Brackets) → (c ≡ true → BracketsStay o) → BracketsStay (cond c o None)
cond_stays true o l = l refl
cond_stays false o l = tt

comma_leads : (t : Spelled) → is_symbol 44 t ≡ true → step Inside t.lexeme ≡ BehindSeparator
comma_leads t h = rw (
  apart_means (Symbol 44) (Symbol 59) t.lexeme refl h,
  apart_means (Symbol 44) (Symbol 123) t.lexeme refl h,
  apart_means (Symbol 44) (Symbol 125) t.lexeme refl h,
  apart_means (Symbol 44) (Symbol 91) t.lexeme refl h,
  h,
) refl

bracket_leads : (t : Spelled) → is_symbol 91 t ≡ true → step Inside t.lexeme ≡ BehindSeparator
bracket_leads t h = rw (
  apart_means (Symbol 91) (Symbol 59) t.lexeme refl h,
  apart_means (Symbol 91) (Symbol 123) t.lexeme refl h,
  apart_means (Symbol 91) (Symbol 125) t.lexeme refl h,
  h,
) refl

later_stay : (most : ℕ) (ts : List Spelled) → IsCalm Inside ts → BracketsStay (brackets most 44 ts)
later_stay zero ts calm = tt
later_stay (suc most) [] calm = tt
later_stay (suc most) (s ∷ ts) calm = cond_stays (is_symbol 44 s)
    (option_and_then (λ e. with_entry e (brackets most 44 e.rest)) (entry_of s ts))
    (λ m. let next = calm_next Inside BehindSeparator s ts (comma_leads s m) calm in
    entry_then_stay most ts (entry_of s ts) (entry_stays s ts next) (entry_tail s ts) next (later_stay most))

brackets_stay : (most : ℕ) (ts : List Spelled) → IsCalm Inside ts → BracketsStay (brackets most 91 ts)
brackets_stay zero ts calm = tt
brackets_stay (suc most) [] calm = tt
brackets_stay (suc most) (s ∷ ts) calm = cond_stays (is_symbol 91 s)
    (option_and_then (λ e. with_entry e (brackets most 44 e.rest)) (entry_of s ts))
    (λ m. let next = calm_next Inside BehindSeparator s ts (bracket_leads s m) calm in
    entry_then_stay most ts (entry_of s ts) (entry_stays s ts next) (entry_tail s ts) next (later_stay most))

-- ---- fronts stay

-- where a statement begins, or where none does
abbrev pub begun : (start : Bool) → State
begun start = cond start Start Inside

abbrev FrontStays : Option Front → Type 0
FrontStays None = Unit {0}
FrontStays (Some f) = (f.gone ≡ []) × (f.starts ≡ true → IsCalm Start f.rest)

front_of_brackets : (ts : List Spelled) (o : Option Brackets) → BracketsStay o → FrontStays (option_map (λ b. record {
  gone = cond (all_go b.entries) (before ts b.rest) (gone_within b.entries);
  rest = b.rest;
  starts = false;
}) o)
front_of_brackets ts None k = tt
front_of_brackets ts (Some b) k = (rw k.some k.within, λ h. cc)

start_under : (p q r : Bool) (u : State) → (p || (q || r)) ≡ true
    → under Start (cond p Start (cond q Start (cond r Start u))) ≡ true
start_under true q r u h = refl
start_under false true r u h = refl
start_under false false true u h = refl
start_under false false false u h = cc

token_stays : (ts : List Spelled) → IsCalm Inside ts → FrontStays (token_front ts)
token_stays [] calm = tt
token_stays (t ∷ ts) calm = (
  refl,
  λ h. calm_under Start (step Inside t.lexeme) ts
      (start_under (is_symbol 59 t) (is_symbol 123 t) (is_symbol 125 t) _ h) calm,
)

or_stays : (o p : Option Front) → FrontStays o → FrontStays p → FrontStays (option_or o p)
or_stays None p k l = l
or_stays (Some f) p k l = k

no_start : (start : Bool) (ts : List Spelled) → IsCalm (begun start) ts → start_front start ts ≡ None
no_start false ts calm = refl
no_start true ts calm = rw (no_statement ts calm, no_weak ts calm) refl

front_stays : (start : Bool) (ts : List Spelled) → IsCalm (begun start) ts → FrontStays (front_of start ts)
front_stays start ts calm =
    let inside = inside_calm (begun start) ts calm in
    rw (no_start start ts calm) (or_stays (brackets_front ts) (token_front ts)
    (front_of_brackets ts (brackets (length ts) 91 ts) (brackets_stay (length ts) ts inside))
    (token_stays ts inside))

rest_calm : (starts : Bool) (us : List Spelled) → (starts ≡ true → IsCalm Start us) → IsCalm Inside us
    → IsCalm (begun starts) us
rest_calm true us h k = h refl
rest_calm false us h k = k

goes_by : (most : ℕ) (s : State) (ts : List Spelled) (o : Option Front) → FrontStays o → FrontRest ts o
    → IsCalm s ts
    → ((start : Bool) (us : List Spelled) → IsCalm (begun start) us → goes_from most start us ≡ [])
    → unwrap_or (option_map (λ f. f.gone ++ goes_from most f.starts f.rest) o) [] ≡ []
goes_by most s ts None l r calm m = refl
goes_by most s ts (Some f) l r calm m =
    let rest = m f.starts f.rest (rest_calm f.starts f.rest l.1 (calm_tail s f.rest ts r.tail calm)) in
    rw (l.0, rest) refl

calm_goes : (most : ℕ) (start : Bool) (ts : List Spelled) → IsCalm (begun start) ts → goes_from most start ts ≡ []
calm_goes zero start ts calm = refl
calm_goes (suc most) start ts calm = goes_by most (begun start) ts (front_of start ts) (front_stays start ts calm)
    (front_rest start ts) calm (calm_goes most)

pub nothing_found : (ts : List Spelled) → IsCalm Start ts → goes ts ≡ []
nothing_found ts calm = calm_goes (length ts) true ts calm
