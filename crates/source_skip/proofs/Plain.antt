-- What has nothing to skip stays as it is.
use Rattle.std.specs.Prelude.{◌≡◌, ℕ, zero, suc, Bool, true, false, ◌&&◌, ◌||◌, cond, codes, List, [], ◌∷◌, ◌++◌, length, Option, None, Some, option_map, option_and_then, unwrap_or}
use Rattle.std.proofs.Common.{refl}
use Rattle.std.specs.Option.{option_or}
use Rattle.proto_syntax.specs.Grammar.{OneOf, NoneOf, AnyString, fits}
use Rattle.proto_tokens.specs.Token.{Spelled}
use Rattle.source_skip.specs.Laws.{IsPlain, begins_gone}
use Rattle.source_skip.specs.Pieces.{loose_tokens}
use Rattle.source_skip.specs.Shapes.{Shape, One, ◌⨾◌, Braces, Optional, behind, full, is_symbol, leaving, leaving_name, option_statement, extend_statement, statement, staying, symbol, unwritten, unwritten_of_fields, value, weak, word}
use Rattle.source_skip.specs.Skipped.{Brackets, Entry, Front, all_go, before, brackets, brackets_front, entry_of, front_of, goes, goes_from, gone_later, gone_within, skipped, start_front, token_front, with_entry}
use Rattle.source_skip.proofs.Behind.{IsTail, here, later}
use Rattle.source_skip.proofs.Blanks.{without_none}
use Rattle.source_skip.proofs.Entries.{EntryTail, entry_tail}
use Rattle.source_skip.proofs.Fronts.{FrontRest, front_rest}

pub nothing_goes : (text : List ℕ) → goes (loose_tokens text) ≡ [] → skipped text ≡ text
nothing_goes text h = rw h (without_none 0 text)

-- ---- what two tokens in a row do not begin

plain_rest : (t : Spelled) (ts : List Spelled) → IsPlain (t ∷ ts) → IsPlain ts
plain_rest t [] k = tt
plain_rest t (u ∷ us) (h, k) = k

plain_tail : (us ts : List Spelled) → IsTail us ts → IsPlain ts → IsPlain us
plain_tail us _ here k = k
plain_tail us (t ∷ ts) (later l) k = plain_tail us ts l (plain_rest t ts k)

either_false : (p q : Bool) → (p || q) ≡ false → (p ≡ false) × (q ≡ false)
either_false true q h = (h, cc)
either_false false q h = (refl, h)

then_false : (p q : Bool) → (p && q) ≡ false → p ≡ true → q ≡ false
then_false true q h k = h
then_false false q h k = cc

record Begins (a b : Spelled) : Type 0 where
  options : (fits (OneOf (codes "option" ∷ [])) a.lexeme && (is_symbol 40 b || fits (OneOf unwritten) b.lexeme)) ≡ false
  extends : (fits (OneOf (codes "extend" ∷ [])) a.lexeme && (is_symbol 46 b || fits (NoneOf []) b.lexeme)) ≡ false
  weaks : (fits (OneOf (codes "import" ∷ [])) a.lexeme && fits (OneOf (codes "weak" ∷ [])) b.lexeme) ≡ false
  settings : ((is_symbol 91 a || is_symbol 44 a) && (is_symbol 40 b || fits (OneOf unwritten_of_fields) b.lexeme))
      ≡ false

begins : (a b : Spelled) → begins_gone a b ≡ false → Begins a b
begins a b h =
    let first = either_false _ _ h in
    let second = either_false _ _ first.1 in
    let third = either_false _ _ second.1 in
    record { options = first.0; extends = second.0; weaks = third.0; settings = third.1 }

-- ---- rules of which nothing stands there

part_none : (a b : Shape) (ts : List Spelled) → behind a ts ≡ None → behind (a ⨾ b) ts ≡ None
part_none a b ts h = rw h refl

-- behind a first token nothing stands
behind_first : (f : List Spelled → Option (List Spelled)) (c : Bool) (ts : List Spelled) → (c ≡ true → f ts ≡ None)
    → option_and_then f (cond c (Some ts) None) ≡ None
behind_first f true ts h = h refl
behind_first f false ts h = refl

name_none : (words : List (List ℕ)) (b : Spelled) (ts : List Spelled)
    → (is_symbol 40 b || fits (OneOf words) b.lexeme) ≡ false → behind (leaving_name words) (b ∷ ts) ≡ None
name_none words b ts h =
    let k = either_false (is_symbol 40 b) (fits (OneOf words) b.lexeme) h in rw (k.0, k.1) refl

named_none : (b : Spelled) (ts : List Spelled) → (is_symbol 46 b || fits (NoneOf []) b.lexeme) ≡ false
    → behind (Optional (symbol ".") ⨾ full ⨾ Braces) (b ∷ ts) ≡ None
named_none b ts h =
    let k = either_false (is_symbol 46 b) (fits (NoneOf []) b.lexeme) h in rw (k.0, k.1) refl

or_none : (o p : Option (List Spelled)) → o ≡ None → p ≡ None → option_or o p ≡ None
or_none None p h k = k
or_none (Some us) p h k = cc

no_option : (ts : List Spelled) → IsPlain ts → behind option_statement ts ≡ None
no_option [] k = refl
no_option (a ∷ []) k = behind_first (behind (leaving unwritten ⨾ symbol ";"))
    (fits (OneOf (codes "option" ∷ [])) a.lexeme) [] (λ h. refl)
no_option (a ∷ b ∷ ts) (h, k) = behind_first (behind (leaving unwritten ⨾ symbol ";"))
    (fits (OneOf (codes "option" ∷ [])) a.lexeme) (b ∷ ts)
    (λ o. part_none (leaving unwritten) (symbol ";") (b ∷ ts)
    (part_none (leaving_name unwritten) (symbol "=" ⨾ value) (b ∷ ts)
    (name_none unwritten b ts (then_false _ _ (begins a b h).options o))))

no_extend : (ts : List Spelled) → IsPlain ts → behind extend_statement ts ≡ None
no_extend [] k = refl
no_extend (a ∷ []) k = behind_first (behind (Optional (symbol ".") ⨾ full ⨾ Braces))
    (fits (OneOf (codes "extend" ∷ [])) a.lexeme) [] (λ h. refl)
no_extend (a ∷ b ∷ ts) (h, k) = behind_first (behind (Optional (symbol ".") ⨾ full ⨾ Braces))
    (fits (OneOf (codes "extend" ∷ [])) a.lexeme) (b ∷ ts)
    (λ o. named_none b ts (then_false _ _ (begins a b h).extends o))

no_statement : (ts : List Spelled) → IsPlain ts → behind statement ts ≡ None
no_statement ts k = or_none (behind option_statement ts) (behind extend_statement ts) (no_option ts k) (no_extend ts k)

weak_first : (b : Spelled) (ts : List Spelled) → fits (OneOf (codes "weak" ∷ [])) b.lexeme ≡ false
    → behind (word "weak" ⨾ One AnyString) (b ∷ ts) ≡ None
weak_first b ts h = rw h refl

no_weak : (ts : List Spelled) → IsPlain ts → behind weak ts ≡ None
no_weak [] k = refl
no_weak (a ∷ []) k = behind_first (behind (word "weak" ⨾ One AnyString))
    (fits (OneOf (codes "import" ∷ [])) a.lexeme) [] (λ h. refl)
no_weak (a ∷ b ∷ ts) (h, k) = behind_first (behind (word "weak" ⨾ One AnyString))
    (fits (OneOf (codes "import" ∷ [])) a.lexeme) (b ∷ ts)
    (λ o. weak_first b ts (then_false _ _ (begins a b h).weaks o))

-- ---- settings stay

no_leaving : (s : Spelled) (ts : List Spelled) → IsPlain (s ∷ ts) → (is_symbol 91 s || is_symbol 44 s) ≡ true
    → behind (leaving unwritten_of_fields) ts ≡ None
no_leaving s [] k m = refl
no_leaving s (b ∷ ts) (h, k) m = part_none (leaving_name unwritten_of_fields) (symbol "=" ⨾ value) (b ∷ ts)
    (name_none unwritten_of_fields b ts (then_false _ _ (begins s b h).settings m))

abbrev Stays : Option Entry → Type 0
Stays None = Unit {0}
Stays (Some e) = e.goes ≡ false

staying_stays : (s : Spelled) (ts : List Spelled) (o : Option (List Spelled)) → Stays
    (option_map (λ rest. record { separator = s; setting = before ts rest; goes = false; rest = rest }) o)
staying_stays s ts None = tt
staying_stays s ts (Some us) = refl

entry_stays : (s : Spelled) (ts : List Spelled) → IsPlain (s ∷ ts) → (is_symbol 91 s || is_symbol 44 s) ≡ true
    → Stays (entry_of s ts)
entry_stays s ts k m = rw (no_leaving s ts k m) (staying_stays s ts (behind (staying unwritten_of_fields) ts))

record AllStay (es : List Entry) : Type 0 where
  some : all_go es ≡ false
  within : gone_within es ≡ []
  behind_others : gone_later true es ≡ []

abbrev BracketsStay : Option Brackets → Type 0
BracketsStay None = Unit {0}
BracketsStay (Some b) = AllStay b.entries

close_stays : (e : Entry) (o : Option (List Spelled)) → e.goes ≡ false
    → BracketsStay (option_map (λ rest. record { entries = e ∷ []; rest = rest }) o)
close_stays e None h = tt
close_stays e (Some us) h = record { some = rw h refl; within = rw h refl; behind_others = rw h refl }

more_stay : (e : Entry) (o : Option Brackets) → e.goes ≡ false → BracketsStay o
    → BracketsStay (option_map (λ b. record { entries = e ∷ b.entries; rest = b.rest }) o)
more_stay e None h k = tt
more_stay e (Some b) h k = record {
  some = rw h refl;
  within = rw h k.behind_others;
  behind_others = rw h k.behind_others;
}

either_stays : (o p : Option Brackets) → BracketsStay o → BracketsStay p → BracketsStay (option_or o p)
either_stays None p l m = m
either_stays (Some b) p l m = l

entry_then_stay : (most : ℕ) (s : Spelled) (ts : List Spelled) (o : Option Entry) → Stays o → EntryTail ts o
    → IsPlain ts → ((us : List Spelled) → IsPlain us → BracketsStay (brackets most 44 us))
    → BracketsStay (option_and_then (λ e. with_entry e (brackets most 44 e.rest)) o)
entry_then_stay most s ts None l t k m = tt
entry_then_stay most s ts (Some e) l t k m = either_stays
    (option_map (λ rest. record { entries = e ∷ []; rest = rest }) (behind (symbol "]") e.rest))
    (option_map (λ b. record { entries = e ∷ b.entries; rest = b.rest }) (brackets most 44 e.rest))
    (close_stays e (behind (symbol "]") e.rest) l)
    (more_stay e (brackets most 44 e.rest) l (m e.rest (plain_tail e.rest ts t k)))

cond_stays : (c : Bool) (o : Option Brackets) → (c ≡ true → BracketsStay o) → BracketsStay (cond c o None)
cond_stays true o l = l refl
cond_stays false o l = tt

later_stay : (most : ℕ) (ts : List Spelled) → IsPlain ts → BracketsStay (brackets most 44 ts)
later_stay zero ts k = tt
later_stay (suc most) [] k = tt
later_stay (suc most) (s ∷ ts) k = cond_stays (is_symbol 44 s)
    (option_and_then (λ e. with_entry e (brackets most 44 e.rest)) (entry_of s ts))
    (λ m. entry_then_stay most s ts (entry_of s ts) (entry_stays s ts k (marked (is_symbol 91 s) (is_symbol 44 s) m))
    (entry_tail s ts) (plain_rest s ts k) (later_stay most))
  where
    marked : (p q : Bool) → q ≡ true → (p || q) ≡ true
    marked true q h = refl
    marked false q h = h

brackets_stay : (most : ℕ) (ts : List Spelled) → IsPlain ts → BracketsStay (brackets most 91 ts)
brackets_stay zero ts k = tt
brackets_stay (suc most) [] k = tt
brackets_stay (suc most) (s ∷ ts) k = cond_stays (is_symbol 91 s)
    (option_and_then (λ e. with_entry e (brackets most 44 e.rest)) (entry_of s ts))
    (λ m. entry_then_stay most s ts (entry_of s ts) (entry_stays s ts k (rw m refl)) (entry_tail s ts)
    (plain_rest s ts k) (later_stay most))

-- ---- fronts stay

abbrev FrontStays : Option Front → Type 0
FrontStays None = Unit {0}
FrontStays (Some f) = f.gone ≡ []

front_of_brackets : (ts : List Spelled) (o : Option Brackets) → BracketsStay o → FrontStays (option_map (λ b. record {
  gone = cond (all_go b.entries) (before ts b.rest) (gone_within b.entries);
  rest = b.rest;
  starts = false;
}) o)
front_of_brackets ts None k = tt
front_of_brackets ts (Some b) k = rw k.some k.within

token_stays : (ts : List Spelled) → FrontStays (token_front ts)
token_stays [] = tt
token_stays (t ∷ ts) = refl

or_stays : (o p : Option Front) → FrontStays o → FrontStays p → FrontStays (option_or o p)
or_stays None p k l = l
or_stays (Some f) p k l = k

no_start : (start : Bool) (ts : List Spelled) → IsPlain ts → start_front start ts ≡ None
no_start false ts k = refl
no_start true ts k = rw (no_statement ts k, no_weak ts k) refl

front_stays : (start : Bool) (ts : List Spelled) → IsPlain ts → FrontStays (front_of start ts)
front_stays start ts k = rw (no_start start ts k) (or_stays (brackets_front ts) (token_front ts)
    (front_of_brackets ts (brackets (length ts) 91 ts) (brackets_stay (length ts) ts k)) (token_stays ts))

goes_by : (most : ℕ) (ts : List Spelled) (o : Option Front) → FrontStays o → FrontRest ts o → IsPlain ts
    → ((start : Bool) (us : List Spelled) → IsPlain us → goes_from most start us ≡ [])
    → unwrap_or (option_map (λ f. f.gone ++ goes_from most f.starts f.rest) o) [] ≡ []
goes_by most ts None l r k m = refl
goes_by most ts (Some f) l r k m = rw (l, m f.starts f.rest (plain_tail f.rest ts r.tail k)) refl

plain_goes : (most : ℕ) (start : Bool) (ts : List Spelled) → IsPlain ts → goes_from most start ts ≡ []
plain_goes zero start ts k = refl
plain_goes (suc most) start ts k =
    goes_by most ts (front_of start ts) (front_stays start ts k) (front_rest start ts) k (plain_goes most)

pub plain_stays : (text : List ℕ) → IsPlain (loose_tokens text) → skipped text ≡ text
plain_stays text k = nothing_goes text (plain_goes (length (loose_tokens text)) true (loose_tokens text) k)
