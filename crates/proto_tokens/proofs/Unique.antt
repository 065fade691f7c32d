-- A text has one list of tokens or one fault.
use Rattle.proto_tokens.proofs.Common.{common_steps, ◌≡◌, ℕ, ◌≤◌, ◌⊎◌, true, false, Option, None, Some, List, [], ◌∷◌, length, get_or, take, drop, refl, sym, ap, subst, ◌∙◌, inl, inr, arith, length-take-le, length-drop, get_or-take, IsUtf8, Result, Ok, Err, MatchResult, IsErrAnd, AllPass, prefix_len, is_ascii_digit, is_ascii_graphic, both_ways, drop_all, Kind, nat_tests, All-head, All-get_or, begins, is_blank, is_quote, is_numeric, Writes, IsNumeral, Lexeme, identifier, number, string_literal, punctuation, Spelled, tokens_of, IsUnclosedComment, IsPiece, IsLongestPiece, IsPieceFault, IsBadNumber, IsTooBig, HasNoClose, TokenError}
use Rattle.proto_base.specs.declared.kind.Kind.TheVariants as kinds
use Rattle.proto_tokens.specs.Quoted.{Part, IsPart, HasByteAt, IsString, IsStringFault, IsPartFault, value_of}
use Rattle.proto_tokens.specs.Spelling.{Piece, tokens_from, HasPieceFault, IsTokenList, IsFault, mark_len}
use Rattle.proto_tokens.specs.Told.{IsFaultOf, TellsFault}
use Rattle.proto_tokens.specs.declared.token.Tokens.{Tokens}
use Rattle.proto_tokens.specs.declared.token.TokenError.TheVariants as errors
use Rattle.proto_tokens.proofs.Escapes.{escape_begins}
use Rattle.proto_tokens.proofs.Strings.{opened_one, string_one, no_part_at_quote, no_part}
use Rattle.proto_tokens.proofs.CutLemmas.{cut_one}
use Rattle.proto_tokens.proofs.Runs.{begins_first, run_longest, within_run}
use Rattle.proto_tokens.proofs.Pieces.{starts, numeral_numeric, comment_at, close_at, begun_by}

-- ---- numerals

x_no_digit : (x : ℕ) (digits ds : List ℕ) (n : ℕ) → (x ≡ 120) ⊎ (x ≡ 88) → x ∷ digits ≡ ds → Writes 8 ds n → ⊥
x_no_digit x digits ds n form same writes = grind (arith, All-head, nat_tests)

numeral_one : (bs : List ℕ) (m n : ℕ) → IsNumeral bs m → IsNumeral bs n → m ≡ n
numeral_one bs m n a b = grind (arith, x_no_digit)

-- ---- strings

no_part_at_end : (quote : ℕ) (after : List ℕ) (end : ℕ) (p : Part) → length after ≤ end
    → IsPart quote (drop end after) p → ⊥
no_part_at_end quote after end p le is = grind (arith, drop_all, escape_begins, length-take-le)

-- where a string's fault lies no part stands
no_part_at_fault : (quote : ℕ) (after : List ℕ) (parts : List Part) (end at : ℕ) (kind : Kind) → is_quote quote ≡ true
    → IsPartFault quote after parts end at kind → (p : Part) → IsPart quote (drop end after) p → ⊥
no_part_at_fault quote after parts end at kind quote_is (inl escape) p is = escape.3 p is
no_part_at_fault quote after parts end at kind quote_is (inr (inl closed)) p is =
    no_part_at_quote quote after end quote_is closed.2 p is
no_part_at_fault quote after parts end at kind quote_is (inr (inr (inl zero_byte))) p is =
    no_part quote after end 0 zero_byte.2 (grind (arith, nat_tests)) (λ e. absurd (omega arith)) p is
no_part_at_fault quote after parts end at kind quote_is (inr (inr (inr open_))) p is =
    elim open_.2 [
      | inl ends ↦ no_part_at_end quote after end p (omega arith) is
      | inr line ↦ no_part quote after end 10 line (grind (arith, nat_tests)) (λ e. absurd (omega arith)) p is
    ]

-- the byte where a fault lies is not the closing quote, or else the value is no text
not_closed : (quote : ℕ) (after : List ℕ) (parts : List Part) (end at : ℕ) (kind : Kind) → is_quote quote ≡ true
    → IsPartFault quote after parts end at kind
    → HasByteAt after end quote → IsUtf8 (value_of parts) → ⊥
not_closed quote after parts end at kind quote_is fault closes utf8 = grind (arith, nat_tests)

-- a string with a fault is no string
no_string : (s : List ℕ) (n at : ℕ) (v : List ℕ) (kind : Kind) → IsString s n v → IsStringFault s at kind → ⊥
no_string s n at v kind a b =
    let one = opened_one a.4 b.4 (no_part_at_quote a.0 a.1 a.3 a.4.quote_is a.5)
    (no_part_at_fault b.0 b.1 b.2 b.3 at kind b.4.quote_is b.5) in
    not_closed b.0 b.1 b.2 b.3 at kind b.4.quote_is b.5 (grind arith) (grind arith)

-- ---- pieces

none_mark : (s : List ℕ) (n c : ℕ) → IsPiece s n None → IsPiece s n (Some (punctuation c)) → ⊥
none_mark s n c (inl blanks) b =
    let f = All-get_or (λ b. is_blank b ≡ true) (take n s) 0 0 blanks.0 blanks.1 in grind (arith, nat_tests)
none_mark s n c (inr comment) b = grind arith

lexeme_one : (s : List ℕ) (n : ℕ) (l : Lexeme) (w : Option Lexeme) → IsPiece s n (Some l) → IsPiece s n w → w ≡ Some l
lexeme_one s n (identifier name) w a b = grind (arith, common_steps, (begun_by s n w b).letter, starts)
lexeme_one s n (number v) w a b =
    let same = (begun_by s n w b).digit (starts s n (Some (number v)) a).2 in
    same.1 ∙ ap (λ (x : ℕ). Some (number x)) (numeral_one (take n s) same.0 v (rw same.1 at b).0 a.0)
lexeme_one s n (string_literal v) w a b =
    let same = (begun_by s n w b).quote (starts s n (Some (string_literal v)) a).2 in
    same.1 ∙ ap (λ (l : List ℕ). Some (string_literal l)) (string_one s n n same.0 v (rw same.1 at b) a).1
lexeme_one s n (punctuation c) w a b =
    elim ((begun_by s n w b).mark (starts s n (Some (punctuation c)) a).2) [
      | inl none ↦ absurd (none_mark s n c (rw none.0 at b) a)
      | inr same ↦ grind arith
    ]

piece_one : (s : List ℕ) (n : ℕ) (v w : Option Lexeme) → IsPiece s n v → IsPiece s n w → v ≡ w
piece_one s n None None a b = refl
piece_one s n None (Some l) a b = lexeme_one s n l None b a
piece_one s n (Some l) w a b = sym (lexeme_one s n l w a b)

longest_one : (s : List ℕ) (p q : Piece) → IsLongestPiece s p.len p.is → IsLongestPiece s q.len q.is → p ≡ q
longest_one s p q a b = grind (arith, piece_one)

-- ---- whole texts

no_piece_at_end : (s : List ℕ) (p : Piece) → IsLongestPiece (drop (length s) s) p.len p.is → ⊥
no_piece_at_end s p is = omega (arith, (starts (drop (length s) s) p.len p.is is.piece_is).1, length-drop (length s) s)

-- ---- faults of strings

string_fault_one : (s : List ℕ) (m n : ℕ) (j k : Kind) → IsStringFault s m j → IsStringFault s n k → (m ≡ n) × (j ≡ k)
string_fault_one s m n j k a b =
    let one = opened_one a.4 b.4 (no_part_at_fault a.0 a.1 a.2 a.3 m j a.4.quote_is a.5)
    (no_part_at_fault b.0 b.1 b.2 b.3 n k b.4.quote_is b.5) in
    grind (arith, nat_tests)

-- ---- faults of pieces

-- what decides the fault of a piece that can't be made, by the first byte and what may be wrong behind it
abbrev FaultCase : ℕ → Type 0 → Type 0 → Type 0 → (ℕ → Kind → Type 0) → ℕ → Kind → Type 0
FaultCase b Bad Big Open InString at kind =
    ((is_blank b ≡ false) × (is_ascii_graphic b ≡ false) × (kind ≡ kinds.BadByte) × (at ≡ 0))
    ⊎ (((is_ascii_digit b ≡ true) × Bad × (kind ≡ kinds.BadNumber) × (at ≡ 0))
    ⊎ (((is_ascii_digit b ≡ true) × Big × (kind ≡ kinds.NumberTooBig) × (at ≡ 0))
    ⊎ (((b ≡ 47) × Open × (kind ≡ kinds.UnclosedComment) × (at ≡ 0)) ⊎ ((is_quote b ≡ true) × InString at kind))))

abbrev PieceFaultCase : List ℕ → ℕ → Kind → Type 0
PieceFaultCase s at kind =
    FaultCase (get_or s 0 0) (IsBadNumber s) (IsTooBig s) (IsUnclosedComment s) (IsStringFault s) at kind

too_big_digit : (s : List ℕ) → IsTooBig s → is_ascii_digit (get_or s 0 0) ≡ true
too_big_digit s big = grind (arith, nat_tests, begins_first, get_or-take, length-take-le, numeral_numeric)

piece_fault_case : (s : List ℕ) (at : ℕ) (kind : Kind) → IsPieceFault s at kind → PieceFaultCase s at kind
piece_fault_case s at kind fault = grind (arith, begins_first, too_big_digit)

fault_long : (s : List ℕ) (at : ℕ) (kind : Kind) → IsPieceFault s at kind → s ≡ [] → ⊥
fault_long s at kind fault empty = grind (arith, begins_first, length-take-le, numeral_numeric)

fault_case_one : (b m n : ℕ) (j k : Kind) (Bad Big Open : Type 0) (InString : ℕ → Kind → Type 0) → (Bad → Big → ⊥)
    → (InString m j → InString n k → (m ≡ n) × (j ≡ k)) → FaultCase b Bad Big Open InString m j
    → FaultCase b Bad Big Open InString n k → (m ≡ n) × (j ≡ k)
fault_case_one b m n j k Bad Big Open InString apart one x y = grind (arith, nat_tests)

-- a piece has one fault
pub piece_fault_one : (s : List ℕ) (m n : ℕ) (j k : Kind) → IsPieceFault s m j → IsPieceFault s n k → (m ≡ n) × (j ≡ k)
piece_fault_one s m n j k a b =
    fault_case_one (get_or s 0 0) m n j k (IsBadNumber s) (IsTooBig s) (IsUnclosedComment s) (IsStringFault s)
    (λ bad big. both_ways _ big.4 (bad.1 big.0 big.1 big.2 big.3)) (string_fault_one s m n j k)
    (piece_fault_case s m j a) (piece_fault_case s n k b)

-- a prefix of numeric bytes that no such byte follows is the whole run
whole_run : (s : List ℕ) (k : ℕ) → k ≤ length s → AllPass is_numeric (take k s) → begins is_numeric (drop k s) ≡ false
    → k ≡ prefix_len is_numeric s
whole_run s k within all stops = grind (arith, both_ways, run_longest, within_run)

no_small_number : (s : List ℕ) (n v : ℕ) → n ≤ length s → IsTooBig s → IsPiece s n (Some (number v)) → ⊥
no_small_number s n v within big is =
    let a = whole_run s big.0 big.2 (numeral_numeric (take big.0 s) big.1 big.3).0 big.4 in
    let b = whole_run s n within (numeral_numeric (take n s) v is.0).0 is.2 in
    let value = numeral_one (take n s) big.1 v (rw (b, ← a) big.3) is.0 in
    omega (arith, big.5, value, is.1)

no_comment_open : (rest : List ℕ) (n : ℕ) (w : Option Lexeme) → HasNoClose rest → n ≤ length (47 ∷ 42 ∷ rest)
    → IsPiece (47 ∷ 42 ∷ rest) n w → ⊥
no_comment_open rest n w none within is =
    let c = comment_at 42 rest n w (inr refl) within is in
    elim c.2 [
      | inl line ↦ cc
      | inr block ↦
          let at = close_at rest c.0 block.1 (omega (arith, c.1)) block.2 in none (length block.1) at.1 at.2
    ]

no_piece_in_case : (s : List ℕ) (at : ℕ) (kind : Kind) (n : ℕ) (w : Option Lexeme) → n ≤ length s → IsPiece s n w
    → PieceFaultCase s at kind → ⊥
no_piece_in_case s at kind n w within is (inl bad) = grind (arith, both_ways, nat_tests, starts s n w is)
no_piece_in_case s at kind n w within is (inr (inl bad)) =
    let same = (begun_by s n w is).digit bad.0 in
    let number_is = rw same.1 at is in
    both_ways (begins is_numeric (drop n s)) number_is.2 (bad.1.1 n same.0 within number_is.0)
no_piece_in_case s at kind n w within is (inr (inr (inl big))) =
    let same = (begun_by s n w is).digit big.0 in
    no_small_number s n same.0 within big.1 (subst (IsPiece s n) same.1 is)
no_piece_in_case s at kind n w within is (inr (inr (inr (inl (slash, opened, kind_is, at_is))))) =
    no_comment_open opened.0 n w opened.2 (rw opened.1 at within) (rw opened.1 at is)
no_piece_in_case s at kind n w within is (inr (inr (inr (inr fault)))) =
    let same = (begun_by s n w is).quote fault.0 in
    no_string s n at same.0 kind (subst (IsPiece s n) same.1 is) fault.1

-- where a fault lies no piece can be made
pub no_piece_at_fault : (s : List ℕ) (at : ℕ) (kind : Kind) (p : Piece) → IsPieceFault s at kind
    → IsLongestPiece s p.len p.is → ⊥
no_piece_at_fault s at kind p fault is =
    no_piece_in_case s at kind p.len p.is is.fits is.piece_is (piece_fault_case s at kind fault)

-- ---- one answer

pub fault_one : (s : List ℕ) (from m n : ℕ) (j k : Kind) → HasPieceFault s from m j → HasPieceFault s from n k
    → (m ≡ n) × (j ≡ k)
fault_one s from m n j k a b =
    let one = cut_one _ (λ (p : Piece). p.len) longest_one s from a.0 b.0 _ _ a.3 b.3
    (λ p. no_piece_at_fault (drop a.1 s) a.2 j p a.4) (λ p. no_piece_at_fault (drop b.1 s) b.2 k p b.4) in
    let same = piece_fault_one (drop a.1 s) a.2 b.2 j k a.4 (rw one.1 b.4) in
    (omega (arith, a.5, b.5, one.1, same.0), same.1)

-- ---- whole answers

pub tokens_one : (limit : ℕ) (s : List ℕ) (ts us : List Spelled) → IsTokenList limit s ts
    → IsTokenList limit s us → ts ≡ us
tokens_one limit s ts us a b =
    let x = a.spelled_so in
    let y = b.spelled_so in
    let one = cut_one _ (λ (p : Piece). p.len) longest_one s (mark_len s) x.0 y.0 _ _ x.1 y.1 (no_piece_at_end s)
    (no_piece_at_end s) in
    sym x.2 ∙ ap (tokens_from (mark_len s)) one.0 ∙ y.2

pub tokens_no_fault : (limit : ℕ) (s : List ℕ) (ts : List Spelled) (place : ℕ) (kind : Kind) → IsTokenList limit s ts
    → IsFault limit s place kind → ⊥
tokens_no_fault limit s ts place kind a (inl long) = omega (arith, a.short, long.2)
tokens_no_fault limit s ts place kind a (inr (inl no_utf8)) = no_utf8.3 a.utf8
tokens_no_fault limit s ts place kind a (inr (inr fault)) =
    let x = a.spelled_so in
    let y = fault.2 in
    let one = cut_one _ (λ (p : Piece). p.len) longest_one s (mark_len s) x.0 y.0 _ _ x.1 y.3 (no_piece_at_end s)
    (λ p. no_piece_at_fault (drop y.1 s) y.2 kind p y.4) in
    fault_long (drop y.1 s) y.2 kind y.4 (drop_all y.1 s (omega (arith, one.1)))

pub file_fault_one : (limit : ℕ) (s : List ℕ) (m n : ℕ) (j k : Kind) → IsFault limit s m j → IsFault limit s n k
    → (m ≡ n) × (j ≡ k)
file_fault_one limit s m n j k a b = grind (arith, fault_one s (mark_len s) m n j k)

-- what an answer that is right says of every spelling and of every fault

pub of_every_spelling : (limit : ℕ) (s : List ℕ) (result : Result Tokens TokenError)
    → MatchResult result (λ tokens. IsTokenList limit s (tokens_of tokens)) (IsFaultOf limit s) → (ts : List Spelled)
    → IsTokenList limit s ts
    → MatchResult result (λ tokens. tokens_of tokens ≡ ts) (λ e. e ≡ errors.NoMemory)
of_every_spelling limit s (Ok tokens) right ts is = tokens_one limit s (tokens_of tokens) ts right is
of_every_spelling limit s (Err (errors.At place kind)) right ts is =
    absurd (tokens_no_fault limit s ts place.offset kind is right)
of_every_spelling limit s (Err errors.NoMemory) right ts is = refl

pub of_every_fault : (limit : ℕ) (s : List ℕ) (result : Result Tokens TokenError)
    → MatchResult result (λ tokens. IsTokenList limit s (tokens_of tokens)) (IsFaultOf limit s)
    → (place : ℕ) (kind : Kind) → IsFault limit s place kind
    → IsErrAnd result (TellsFault place kind)
of_every_fault limit s (Ok tokens) right place kind fault =
    tokens_no_fault limit s (tokens_of tokens) place kind right fault
of_every_fault limit s (Err (errors.At there other)) right place kind fault =
    file_fault_one limit s there.offset place other kind right fault
of_every_fault limit s (Err errors.NoMemory) right place kind fault = tt
