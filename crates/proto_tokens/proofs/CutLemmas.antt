-- A text cut into pieces, one after another.
use Rattle.proto_tokens.proofs.Common.{◌≡◌, ℕ, ◌+◌, ◌<◌, ◌≤◌, Option, None, Some, List, [], ◌∷◌, ◌++◌, length, drop, map, refl, sym, ap, subst, ◌∙◌, inr, arith, length-drop, length-take-le, append-nil, option_map, IsUtf8, map_push, Kind, Lexeme, Spelled, spelled, lexeme_of, IsLongestPiece, IsPieceFault, IsFaultFrom, TokenError}
use Rattle.proto_tokens.specs.declared.token.Token.{Token}
use Rattle.proto_tokens.specs.declared.token.TokenKind.{TokenKind}
use Rattle.proto_tokens.specs.Cut.{IsCutInto}
use Rattle.proto_tokens.specs.Spelling.{Piece, IsCutIntoPieces, tokens_from, with_token, mark_len}
use Rattle.proto_tokens.specs.Told.{IsPlacedWithin, IsFaultOf}
use Rattle.proto_tokens.specs.declared.token.TokenError.TheVariants as errors
use Rattle.proto_tokens.proofs.Pieces.{starts}

-- up to a place the text is cut into these tokens and what stands between them
pub record IsCutUpTo (s : List ℕ) (start at : ℕ) (ts : List Spelled) : Type 0 where
  pub within : at ≤ length s
  pub pieces : List Piece
  pub cut : IsCutIntoPieces s start pieces at
  pub tokens : tokens_from start pieces ≡ ts

pub piece_nonempty : (s : List ℕ) (n : ℕ) (piece : Option Lexeme) → IsLongestPiece s n piece → 0 < n
piece_nonempty s n piece is = omega (arith, (starts s n piece is.piece_is).0, length-take-le n s is.fits)

pub cut_more : {P : Type 0} (IsPart : List ℕ → P → Type 0) (len : P → ℕ) (s : List ℕ) (from : ℕ) (ps : List P)
    (to : ℕ) (p : P)
    → IsCutInto IsPart len s from ps to → IsPart (drop to s) p → IsCutInto IsPart len s from (ps ++ p ∷ []) (to + len p)
cut_more IsPart len s from [] to p cut is = grind arith
cut_more IsPart len s from (q ∷ ps) to p cut is = (cut.0, cut_more IsPart len s (from + len q) ps to p cut.1 is)

-- where one part at most stands at a place, a text has one cutting that can't go on
pub cut_one : {P : Type 0} (IsPart : List ℕ → P → Type 0) (len : P → ℕ)
    → ((s : List ℕ) (p q : P) → IsPart s p → IsPart s q → p ≡ q)
    → (s : List ℕ) (from : ℕ) (ps qs : List P) (m n : ℕ) → IsCutInto IsPart len s from ps m
    → IsCutInto IsPart len s from qs n
    → ((p : P) → IsPart (drop m s) p → ⊥) → ((p : P) → IsPart (drop n s) p → ⊥) → (ps ≡ qs) × (m ≡ n)
cut_one IsPart len one s from [] [] m n a b no_m no_n = (refl, sym a ∙ b)
cut_one IsPart len one s from [] (q ∷ qs) m n a b no_m no_n = grind arith
cut_one IsPart len one s from (p ∷ ps) [] m n a b no_m no_n = grind arith
cut_one IsPart len one s from (p ∷ ps) (q ∷ qs) m n a b no_m no_n =
    let same = one (drop from s) p q a.0 b.0 in
    let rest = cut_one IsPart len one s (from + len p) ps qs m n a.1 (rw same b.1) no_m no_n in
    ((λ i. same i ∷ rest.0 i), rest.1)

tokens_more : (s : List ℕ) (from : ℕ) (ps : List Piece) (to : ℕ) (p : Piece) → IsCutIntoPieces s from ps to
    → tokens_from from (ps ++ p ∷ []) ≡ tokens_from from ps ++ with_token p.is to (to + p.len) []
tokens_more s from [] to p cut = grind arith
tokens_more s from (q ∷ ps) to p cut = grind (arith, tokens_more s (from + q.len) ps to p cut.1)

cut_on : (s : List ℕ) (start at n : ℕ) (piece : Option Lexeme) (ts : List Spelled) → IsCutUpTo s start at ts
    → IsLongestPiece (drop at s) n piece
    → IsCutUpTo s start (at + n) (ts ++ with_token piece at (at + n) [])
cut_on s start at n piece ts so_far is =
    let p : Piece = record { len = n; is = piece } in
    record {
      within = omega (arith, is.fits, length-drop at s, so_far.within);
      pieces = so_far.pieces ++ p ∷ [];
      cut = cut_more (λ rest p. IsLongestPiece rest p.len p.is) (λ p. p.len) s start so_far.pieces at p so_far.cut is;
      tokens = tokens_more s start so_far.pieces at p so_far.cut
          ∙ ap (λ us. us ++ with_token piece at (at + n) []) so_far.tokens;
    }

pub gap_passed : (s : List ℕ) (start at n : ℕ) (ts : List Spelled) (kind : Option TokenKind) → IsCutUpTo s start at ts
    → IsLongestPiece (drop at s) n (option_map lexeme_of kind) → kind ≡ None → IsCutUpTo s start (at + n) ts
gap_passed s start at n ts kind so_far is none = subst (IsCutUpTo s start (at + n)) (append-nil ts)
    (cut_on s start at n None ts so_far (rw none at is))

pub token_pushed : (s : List ℕ) (start at n : ℕ) (items more : List Token) (kind : Option TokenKind) (k : TokenKind)
    → IsCutUpTo s start at (map spelled items)
    → IsLongestPiece (drop at s) n (option_map lexeme_of kind) → kind ≡ Some k
    → more ≡ items
    ++ record { kind = k; span = record { start = record { offset = at }; end = record { offset = at + n } } } ∷ []
    → IsCutUpTo s start (at + n) (map spelled more)
token_pushed s start at n items more kind k so_far is some more_is =
    rw (more_is, map_push) (cut_on s start at n (Some (lexeme_of k)) (map spelled items) so_far (rw some at is))

-- what the cutting answers of a fault is the text's fault, where the text is short and UTF-8
pub fault_answer : (limit : ℕ) (s source : List ℕ) (mark : ℕ) (e : TokenError) → length s ≤ limit → IsUtf8 s
    → source ≡ s → mark ≡ mark_len s
    → IsFaultFrom source mark e → IsFaultOf limit s e
fault_answer limit s source mark (errors.At place kind) short utf8 same mark_is fault =
    inr (inr (short, utf8, rw (same, mark_is) at fault))
fault_answer limit s source mark errors.NoMemory short utf8 same mark_is fault = tt

-- ---- places

pub cut_within : (s : List ℕ) (from : ℕ) (ps : List Piece) (to : ℕ) → from ≤ length s → IsCutIntoPieces s from ps to
    → to ≤ length s
cut_within s from [] to within cut = omega (arith, cut)
cut_within s from (p ∷ ps) to within cut =
    grind (arith, length-drop, cut_within s (from + p.len) ps to)

pub piece_fault_within : (s : List ℕ) (at : ℕ) (kind : Kind) → IsPieceFault s at kind → at ≤ length s
piece_fault_within s at kind fault = grind arith

pub placed_within : (s source : List ℕ) (mark : ℕ) (e : TokenError) → source ≡ s → mark ≤ length s
    → IsFaultFrom source mark e → IsPlacedWithin (length s) e
placed_within s source mark (errors.At place kind) same within fault =
    let len = ap length same in
    let cut = cut_within source mark fault.0 fault.1 (omega arith) fault.3 in
    let inside = piece_fault_within (drop fault.1 source) fault.2 kind fault.4 in
    omega (arith, fault.5, length-drop fault.1 source)
placed_within s source mark errors.NoMemory same within fault = tt
