-- A text keeps its line ends.
use Rattle.std.specs.Prelude.{◌≡◌, ℕ, zero, suc, ◌+◌, ◌-◌, ◌≤◌, Bool, true, false, ◌==◌, ◌||◌, not, List, [], ◌∷◌, ◌++◌, map, length, take, drop, cond, Option, None, Some, option_map, option_and_then, unwrap_or}
use Rattle.std.proofs.Common.{refl, arith, sym, subst}
use Rattle.std.specs.Option.{option_or}
use Rattle.proto_tokens.specs.Spelling.{Piece, mark_len, with_token}
use Rattle.proto_tokens.specs.Token.{Lexeme, Spelled}
use Rattle.source_skip.specs.Pieces.{first_piece, loose_tokens, tokens_from}
use Rattle.source_skip.specs.Shapes.{behind, is_symbol, leaving, staying, statement, symbol, unwritten_of_fields, weak}
use Rattle.source_skip.specs.Skipped.{Brackets, Entry, Front, all_go, before, brackets, brackets_front, entry_by, entry_of, front_of, goes, goes_from, gone_later, gone_of, gone_within, is_of, skipped, start_front, statement_front, token_front, weak_front, with_entry, without}
use Rattle.source_skip.specs.Laws.{is_line_end}
use Rattle.source_skip.proofs.Behind.{IsTail, here, later}
use Rattle.source_skip.proofs.Entries.{EntryTail, entry_tail}
use Rattle.source_skip.proofs.Fronts.{FrontRest, front_rest}
use Rattle.source_skip.proofs.TokenEnds.{AtLeast, NoEnds, PartClear, PieceClear, absurd_cover, at_least, piece_clear}

-- the bytes from a place on that these tokens cover are no line ends
abbrev Clear : ℕ → List Spelled → List ℕ → Type 0
Clear at ts [] = Unit {0}
Clear at ts (b ∷ bs) = (is_of ts at ≡ true → (b == 10) ≡ false) × Clear (suc at) ts bs

-- one list of tokens covers no more than another
abbrev Less : List Spelled → List Spelled → Type 0
Less gone ts = (at : ℕ) → is_of gone at ≡ true → is_of ts at ≡ true

lines_by : (covered : Bool) (b : ℕ) → (covered ≡ true → (b == 10) ≡ false)
    → is_line_end (cond covered 32 b) ≡ is_line_end b
lines_by true b c = sym (c refl)
lines_by false b c = refl

lines_stay : (at : ℕ) (gone : List Spelled) (bs : List ℕ) → Clear at gone bs
    → map is_line_end (without at gone bs) ≡ map is_line_end bs
lines_stay at gone [] c = refl
lines_stay at gone (b ∷ bs) (c, cs) = rw (lines_by (is_of gone at) b c, lines_stay (suc at) gone bs cs) refl

clear_less : (at : ℕ) (gone ts : List Spelled) (bs : List ℕ) → Less gone ts → Clear at ts bs → Clear at gone bs
clear_less at gone ts [] less c = tt
clear_less at gone ts (b ∷ bs) less (c, cs) = ((λ h. c (less at h)), clear_less (suc at) gone ts bs less cs)

is_of-append : (xs ys : List Spelled) (at : ℕ) → is_of (xs ++ ys) at ≡ (is_of xs at || is_of ys at)
is_of-append [] ys at = refl
is_of-append (t ∷ xs) ys at = grind (arith, is_of-append xs ys at)

less_take : (n : ℕ) (ts : List Spelled) → Less (take n ts) ts
less_take zero ts at h = grind arith
less_take (suc n) [] at h = h
less_take (suc n) (t ∷ ts) at h = grind (arith, less_take n ts at)

less_drop : (n : ℕ) (ts : List Spelled) → Less (drop n ts) ts
less_drop zero ts at h = h
less_drop (suc n) [] at h = h
less_drop (suc n) (t ∷ ts) at h = grind (arith, less_drop n ts at)

less_both : (xs ys ts : List Spelled) → Less xs ts → Less ys ts → Less (xs ++ ys) ts
less_both xs ys ts l m at h = grind (arith, is_of-append xs ys at, l at, m at)

less_none : (ts : List Spelled) → Less [] ts
less_none ts at h = grind arith

less_cond : (b : Bool) (xs ys ts : List Spelled) → Less xs ts → Less ys ts → Less (cond b xs ys) ts
less_cond true xs ys ts l m = l
less_cond false xs ys ts l m = m

less_tail : (us ts : List Spelled) → IsTail us ts → Less us ts
less_tail us _ here at h = h
less_tail us (t ∷ ts) (later k) at h = grind (arith, less_tail us ts k at)

less_less : (xs ys ts : List Spelled) → Less xs ys → Less ys ts → Less xs ts
less_less xs ys ts l m at h = m at (l at h)

-- ---- the tokens of settings

abbrev EntryLess : List Spelled → Entry → Type 0
EntryLess ts e = Less (e.separator ∷ []) ts × Less e.setting ts

abbrev AllLess : List Spelled → List Entry → Type 0
AllLess ts [] = Unit {0}
AllLess ts (e ∷ es) = EntryLess ts e × AllLess ts es

all_less : (us ts : List Spelled) (es : List Entry) → IsTail us ts → AllLess us es → AllLess ts es
all_less us ts [] k l = tt
all_less us ts (e ∷ es) k ((s, m), ls) = (
  (less_less (e.separator ∷ []) us ts s (less_tail us ts k), less_less e.setting us ts m (less_tail us ts k)),
  all_less us ts es k ls,
)

less_of : (separated : Bool) (e : Entry) (ts : List Spelled) → EntryLess ts e → Less (gone_of separated e) ts
less_of separated e ts (s, m) = less_both (cond separated (e.separator ∷ []) []) (cond e.goes e.setting []) ts
    (less_cond separated (e.separator ∷ []) [] ts s (less_none ts)) (less_cond e.goes e.setting [] ts m (less_none ts))

less_later : (stands : Bool) (es : List Entry) (ts : List Spelled) → AllLess ts es → Less (gone_later stands es) ts
less_later stands [] ts l = less_none ts
less_later stands (e ∷ es) ts (l, ls) = less_both (gone_of (e.goes || not stands) e)
    (gone_later (stands || not e.goes) es) ts (less_of (e.goes || not stands) e ts l)
    (less_later (stands || not e.goes) es ts ls)

less_within : (es : List Entry) (ts : List Spelled) → AllLess ts es → Less (gone_within es) ts
less_within [] ts l = less_none ts
less_within (e ∷ es) ts (l, ls) = less_both (gone_of false e) (gone_later (not e.goes) es) ts (less_of false e ts l)
    (less_later (not e.goes) es ts ls)

abbrev OnEntry : List Spelled → Option Entry → Type 0
OnEntry ts None = Unit {0}
OnEntry ts (Some e) = EntryLess ts e

less_first : (s : Spelled) (ts : List Spelled) → Less (s ∷ []) (s ∷ ts)
less_first s ts = less_take 1 (s ∷ ts)

less_before : (s : Spelled) (ts rest : List Spelled) → Less (before ts rest) (s ∷ ts)
less_before s ts rest = less_less (before ts rest) ts (s ∷ ts) (less_take (length ts - length rest) ts)
    (less_tail ts (s ∷ ts) (later here))

made_entry : (s : Spelled) (ts : List Spelled) (goes : Bool) (o : Option (List Spelled)) → OnEntry (s ∷ ts)
    (option_map (λ rest. record { separator = s; setting = before ts rest; goes = goes; rest = rest }) o)
made_entry s ts goes None = tt
made_entry s ts goes (Some rest) = (less_first s ts, less_before s ts rest)

either_entry : (ts : List Spelled) (o p : Option Entry) → OnEntry ts o → OnEntry ts p → OnEntry ts (option_or o p)
either_entry ts None p l m = m
either_entry ts (Some e) p l m = l

entry_less : (s : Spelled) (ts : List Spelled) → OnEntry (s ∷ ts) (entry_of s ts)
entry_less s ts = either_entry (s ∷ ts) (entry_by (leaving unwritten_of_fields) true s ts)
    (entry_by (staying unwritten_of_fields) false s ts)
    (made_entry s ts true (behind (leaving unwritten_of_fields) ts))
    (made_entry s ts false (behind (staying unwritten_of_fields) ts))

abbrev OnBrackets : List Spelled → Option Brackets → Type 0
OnBrackets ts None = Unit {0}
OnBrackets ts (Some b) = AllLess ts b.entries

closed_less : (ts : List Spelled) (e : Entry) (o : Option (List Spelled)) → EntryLess ts e
    → OnBrackets ts (option_map (λ rest. record { entries = e ∷ []; rest = rest }) o)
closed_less ts e None l = tt
closed_less ts e (Some rest) l = (l, tt)

more_less : (ts us : List Spelled) (e : Entry) (o : Option Brackets) → EntryLess ts e → IsTail us ts → OnBrackets us o
    → OnBrackets ts (option_map (λ b. record { entries = e ∷ b.entries; rest = b.rest }) o)
more_less ts us e None l k m = tt
more_less ts us e (Some b) l k m = (l, all_less us ts b.entries k m)

either_brackets : (ts : List Spelled) (o p : Option Brackets) → OnBrackets ts o → OnBrackets ts p
    → OnBrackets ts (option_or o p)
either_brackets ts None p l m = m
either_brackets ts (Some b) p l m = l

entry_brackets : (most : ℕ) (s : Spelled) (ts : List Spelled) (o : Option Entry) → OnEntry (s ∷ ts) o → EntryTail ts o
    → ((us : List Spelled) → OnBrackets us (brackets most 44 us))
    → OnBrackets (s ∷ ts) (option_and_then (λ e. with_entry e (brackets most 44 e.rest)) o)
entry_brackets most s ts None l k m = tt
entry_brackets most s ts (Some e) l k m = either_brackets (s ∷ ts)
    (option_map (λ rest. record { entries = e ∷ []; rest = rest }) (behind (symbol "]") e.rest))
    (option_map (λ b. record { entries = e ∷ b.entries; rest = b.rest }) (brackets most 44 e.rest))
    (closed_less (s ∷ ts) e (behind (symbol "]") e.rest) l)
    (more_less (s ∷ ts) e.rest e (brackets most 44 e.rest) l (later k) (m e.rest))

cond_brackets : (ts : List Spelled) (b : Bool) (o : Option Brackets) → OnBrackets ts o → OnBrackets ts (cond b o None)
cond_brackets ts true o l = l
cond_brackets ts false o l = tt

brackets_less : (most mark : ℕ) (ts : List Spelled) → OnBrackets ts (brackets most mark ts)
brackets_less zero mark ts = tt
brackets_less (suc most) mark [] = tt
brackets_less (suc most) mark (s ∷ ts) = cond_brackets (s ∷ ts) (is_symbol mark s)
    (option_and_then (λ e. with_entry e (brackets most 44 e.rest)) (entry_of s ts))
    (entry_brackets most s ts (entry_of s ts) (entry_less s ts) (entry_tail s ts) (brackets_less most 44))

-- ---- the tokens of fronts

abbrev FrontLess : List Spelled → Option Front → Type 0
FrontLess ts None = Unit {0}
FrontLess ts (Some f) = Less f.gone ts

front_or : (ts : List Spelled) (a b : Option Front) → FrontLess ts a → FrontLess ts b → FrontLess ts (option_or a b)
front_or ts None b l m = m
front_or ts (Some f) b l m = l

front_cond : (ts : List Spelled) (start : Bool) (a : Option Front) → FrontLess ts a → FrontLess ts (cond start a None)
front_cond ts true a l = l
front_cond ts false a l = tt

front_mapped : {A : Type 0} (ts : List Spelled) (f : A → Front) (o : Option A) → ((a : A) → Less (f a).gone ts)
    → FrontLess ts (option_map f o)
front_mapped ts f None l = tt
front_mapped ts f (Some a) l = l a

front_of_brackets : (ts : List Spelled) (o : Option Brackets) → OnBrackets ts o
    → FrontLess ts (option_map (λ b. record {
      gone = cond (all_go b.entries) (before ts b.rest) (gone_within b.entries);
      rest = b.rest;
      starts = false;
    }) o)
front_of_brackets ts None l = tt
front_of_brackets ts (Some b) l = less_cond (all_go b.entries) (before ts b.rest) (gone_within b.entries) ts
    (less_take (length ts - length b.rest) ts) (less_within b.entries ts l)

token_less : (ts : List Spelled) → FrontLess ts (token_front ts)
token_less [] = tt
token_less (t ∷ ts) = less_none (t ∷ ts)

less_front : (start : Bool) (ts : List Spelled) → FrontLess ts (front_of start ts)
less_front start ts = front_or ts (start_front start ts) (option_or (brackets_front ts) (token_front ts))
    (front_cond ts start (option_or (statement_front ts) (weak_front ts))
    (front_or ts (statement_front ts) (weak_front ts)
    (front_mapped ts (λ rest. record { gone = before ts rest; rest = rest; starts = true }) (behind statement ts)
    (λ rest. less_take (length ts - length rest) ts))
    (front_mapped ts (λ rest. record { gone = take 1 (drop 1 ts); rest = rest; starts = false }) (behind weak ts)
    (λ rest at h. less_drop 1 ts at (less_take 1 (drop 1 ts) at h)))))
    (front_or ts (brackets_front ts) (token_front ts)
    (front_of_brackets ts (brackets (length ts) 91 ts) (brackets_less (length ts) 91 ts)) (token_less ts))

goes_by : (most : ℕ) (ts : List Spelled) (o : Option Front) → FrontLess ts o → FrontRest ts o
    → ((start : Bool) (us : List Spelled) → Less (goes_from most start us) us)
    → Less (unwrap_or (option_map (λ f. f.gone ++ goes_from most f.starts f.rest) o) []) ts
goes_by most ts None l r m = less_none ts
goes_by most ts (Some f) l r m = less_both f.gone (goes_from most f.starts f.rest) ts l
    (less_less (goes_from most f.starts f.rest) f.rest ts (m f.starts f.rest) (less_tail f.rest ts r.tail))

less_goes : (most : ℕ) (start : Bool) (ts : List Spelled) → Less (goes_from most start ts) ts
less_goes zero start ts = less_none ts
less_goes (suc most) start ts = goes_by most ts (front_of start ts) (less_front start ts) (front_rest start ts)
    (less_goes most)

-- ---- the tokens of a text cover no line end

clear_none : (at : ℕ) (bs : List ℕ) → Clear at [] bs
clear_none at [] = tt
clear_none at (b ∷ bs) = ((λ h. absurd_cover at h), clear_none (suc at) bs)

too_early : (at to n : ℕ) {A : Type 0} → at + suc n ≡ to → to ≤ at → A
too_early at to n e l = grind arith

-- no token begins before a place
clear_skip : (n at to : ℕ) (ts : List Spelled) (s : List ℕ) → at + n ≡ to → AtLeast to ts → Clear to ts (drop n s)
    → Clear at ts s
clear_skip zero at to ts s e least c = subst (λ (k : ℕ). Clear k ts s) (omega (arith, e)) c
clear_skip (suc n) at to ts [] e least c = tt
clear_skip (suc n) at to ts (b ∷ bs) e least c = (
  (λ h. too_early at to n e (least at h)),
  clear_skip n (suc at) to ts bs (omega (arith, e)) least c,
)

clear_over : (n at to : ℕ) (ts : List Spelled) (s : List ℕ) → at + n ≡ to → NoEnds (take n s) → Clear to ts (drop n s)
    → Clear at ts s
clear_over zero at to ts s e ends c = subst (λ (k : ℕ). Clear k ts s) (omega (arith, e)) c
clear_over (suc n) at to ts [] e ends c = tt
clear_over (suc n) at to ts (b ∷ bs) e (end, ends) c =
    ((λ h. end), clear_over n (suc at) to ts bs (omega (arith, e)) ends c)

covered_later : (at to k : ℕ) (lexeme : Lexeme) (rest : List Spelled) → to ≤ k
    → is_of (record { start = at; end = to; lexeme = lexeme } ∷ rest) k ≡ true → is_of rest k ≡ true
covered_later at to k lexeme rest l h = grind arith

clear_behind : (at to k : ℕ) (lexeme : Lexeme) (rest : List Spelled) (bs : List ℕ) → to ≤ k → Clear k rest bs
    → Clear k (record { start = at; end = to; lexeme = lexeme } ∷ rest) bs
clear_behind at to k lexeme rest [] l c = tt
clear_behind at to k lexeme rest (b ∷ bs) l (c, cs) = (
  (λ h. c (covered_later at to k lexeme rest l h)),
  clear_behind at to (suc k) lexeme rest bs (omega (arith, l)) cs,
)

clear_piece : (n at : ℕ) (lexeme : Option Lexeme) (rest : List Spelled) (s : List ℕ) → PartClear s n lexeme
    → AtLeast (at + n) rest → Clear (at + n) rest (drop n s) → Clear at (with_token lexeme at (at + n) rest) s
clear_piece n at None rest s ends least c = clear_skip n at (at + n) rest s refl least c
clear_piece n at (Some lexeme) rest s ends least c = clear_over n at (at + n)
    (record { start = at; end = at + n; lexeme = lexeme } ∷ rest) s refl ends
    (clear_behind at (at + n) (at + n) lexeme rest (drop n s) (omega arith) c)

clear_by : (most at : ℕ) (s : List ℕ) (o : Option Piece) → PieceClear s o
    → ((len : ℕ) → Clear (at + len) (tokens_from most (at + len) (drop len s)) (drop len s))
    → Clear at (unwrap_or (option_map
    (λ p. with_token p.is at (at + p.len) (tokens_from most (at + p.len) (drop p.len s))) o) []) s
clear_by most at s None ends c = clear_none at s
clear_by most at s (Some p) ends c = clear_piece p.len at p.is (tokens_from most (at + p.len) (drop p.len s)) s ends
    (at_least most (at + p.len) (drop p.len s)) (c p.len)

clear_tokens : (most at : ℕ) (s : List ℕ) → Clear at (tokens_from most at s) s
clear_tokens zero at s = clear_none at s
clear_tokens (suc most) at s = clear_by most at s (first_piece s) (piece_clear s)
    (λ len. clear_tokens most (at + len) (drop len s))

clear_loose : (s : List ℕ) → Clear 0 (loose_tokens s) s
clear_loose s = clear_skip (mark_len s) 0 (mark_len s) (loose_tokens s) s (omega arith)
    (at_least (length s) (mark_len s) (drop (mark_len s) s))
    (clear_tokens (length s) (mark_len s) (drop (mark_len s) s))

-- Each line end stays, and none is made. So lines, columns and offsets are those of the source.
pub skipped_keeps_lines : (text : List ℕ) → map is_line_end (skipped text) ≡ map is_line_end text
skipped_keeps_lines text = lines_stay 0 (goes (loose_tokens text)) text
    (clear_less 0 (goes (loose_tokens text)) (loose_tokens text) text
    (less_goes (length (loose_tokens text)) true (loose_tokens text)) (clear_loose text))
