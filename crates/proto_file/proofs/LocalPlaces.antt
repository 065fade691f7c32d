-- Where tokens begin and where a source's own faults stand: within its text.
use Rattle.std.proofs.Common.{sym, subst, ℕ, zero, suc, ◌+◌, ◌≤◌, List, [], ◌∷◌, length, take, drop, inl, inr, arith, length-drop, length-take}
use Rattle.std.specs.Cmp.Lexicographic.{same_text}
use Rattle.std.proofs.lemmas.Str.{utf8_valid_len_le}
use Rattle.proto_base.specs.Limits.{limit_of}
use Rattle.proto_tokens.specs.Spelling.{Piece, IsCutIntoPieces, IsFault, IsTokenList, mark_len, tokens_from}
use Rattle.proto_tokens.specs.Token.{Spelled}
use Rattle.proto_tokens.proofs.CutLemmas.{cut_within, piece_fault_within}
use Rattle.proto_base.specs.declared.file_fault.FileFault.{FileFault}
use Rattle.proto_base.specs.declared.kind.Kind.{Kind}
use Rattle.proto_base.specs.declared.limits.Limit.TheVariants as limit
use Rattle.proto_base.specs.declared.limits.Limits.{Limits}
use Rattle.proto_base.specs.declared.place.Place.{Place}
use Rattle.proto_syntax.specs.Trees.{file_tree}
use Rattle.proto_tree.specs.declared.file.FileTree.{FileTree}
use Rattle.proto_desc.specs.Places.{places_of}
use Rattle.proto_desc.specs.declared.file.FileDesc.{FileDesc}
use Rattle.proto_file.specs.Places.{AllWithin}
use Rattle.proto_file.proofs.PlacesWithin.{BeginWithin, Within, begun, lowered_within, upto}
use Rattle.proto_file.proofs.FileWithin.{breaks_within}
use Rattle.proto_file.specs.Local.{Describes, IsFile, IsOwnFault, of_tokens, of_grammar, of_text, of_rules}
use Rattle.proto_syntax.specs.Told.{place_of_token}

-- ---- tokens

cut_grows : (s : List ℕ) (from : ℕ) (ps : List Piece) (to : ℕ) → IsCutIntoPieces s from ps to → from ≤ to
cut_grows s from [] to cut = omega (arith, cut)
cut_grows s from (p ∷ ps) to cut = omega (arith, cut_grows s (from + p.len) ps to cut.1)

-- tokens begin in a region that holds each place from the first piece to the end of the last
pub pieces_in : (region : ℕ → Type 0) (s : List ℕ) (from : ℕ) (ps : List Piece) (to : ℕ)
    → ((k : ℕ) → from ≤ k → k ≤ to → region k) → IsCutIntoPieces s from ps to
    → BeginWithin region (tokens_from from ps)
pieces_in region s from [] to h cut = tt
pieces_in region s from (p ∷ ps) to h cut =
    let later = pieces_in region s (from + p.len) ps to (λ k low high. h k (omega (arith, low)) high) cut.1 in
    grind (arith, h, cut_grows s from (p ∷ ps) to cut)

tokens_begin : (bytes : ℕ) (text : List ℕ) (ts : List Spelled) → IsTokenList bytes text ts
    → BeginWithin (upto (length text)) ts
tokens_begin bytes text ts is = subst (BeginWithin (upto (length text))) is.spelled_so.2
    (pieces_in (upto (length text)) text _ is.spelled_so.0 (length text) (λ k low high. high) is.spelled_so.1)

token_begins : (n : ℕ) (ts : List Spelled) (k : ℕ) → BeginWithin (upto n) ts → place_of_token ts k n ≤ n
token_begins n [] k begin = grind arith
token_begins n (t ∷ ts) zero begin = begin.0
token_begins n (t ∷ ts) (suc k) begin = token_begins n ts k begin.1

-- so do those of a file's tree
tree_begins : (limits : Limits) (text : List ℕ) (file : FileTree) → IsFile limits text file
    → Within (upto (length text)) (file_tree file)
tree_begins limits text file (ts, is, tree) =
    begun (upto (length text)) (file_tree file)
    (subst (BeginWithin (upto (length text))) (sym tree.tokens) (tokens_begin _ text ts is))

-- ---- faults of tokens

abbrev mark : List ℕ
mark = 0xEF ∷ 0xBB ∷ 0xBF ∷ []

mark_within : (s : List ℕ) → mark_len s ≤ length s
mark_within s = grind (arith, same_text mark (take 3 s), length-take 3 s)

token_fault_within : (bytes : ℕ) (s : List ℕ) (place : ℕ) (kind : Kind) → IsFault bytes s place kind → place ≤ length s
token_fault_within bytes s place kind (inl long) = grind arith
token_fault_within bytes s place kind (inr (inl bad)) = grind (arith, utf8_valid_len_le s)
token_fault_within bytes s place kind (inr (inr (short, utf8, bad))) =
    let (ps, to, at, cut, fault, is) = bad in
    let inside = cut_within s (mark_len s) ps to (mark_within s) cut in
    omega (arith, is, inside, piece_fault_within (drop to s) at kind fault, length-drop to s)

-- ---- places of one source

-- within the text, and within the limit of texts
pub record IsInside (limits : Limits) (text : List ℕ) (place : Place) : Type 0 where
  pub within : place.offset ≤ length text
  pub short : place.offset ≤ limit_of limits limit.FileBytes

pub fault_inside : (limits : Limits) (name text : List ℕ) (f : FileFault) → IsOwnFault limits name text f
    → IsInside limits text f.spot.place
fault_inside limits name text f (of_text (of_tokens at_step fault)) =
    let within : f.spot.place.offset ≤ length text = token_fault_within _ text _ f.spot.kind fault in
    record { within = within; short = grind arith }
fault_inside limits name text f (of_text (of_grammar at_step (ts, k, is, fault, is_kind, at))) =
    let within = token_begins (length text) ts k (tokens_begin _ text ts is) in
    record { within = omega (arith, within, at); short = omega (arith, within, at, is.short) }
fault_inside limits name text f (of_rules file is at_step breaks) =
    let within : f.spot.place.offset ≤ length text =
    breaks_within (length text) limits name file f.spot (tree_begins limits text file is) breaks in
    record { within = within; short = omega (arith, within, is.1.short) }

-- all places of a descriptor are those of its text
pub places_within : (limits : Limits) (name text : List ℕ) (desc : FileDesc) → Describes limits name text desc
    → AllWithin (length text) (places_of desc)
places_within limits name text desc (file, is, unbroken, same) =
    rw same (lowered_within (upto (length text)) name file (tree_begins limits text file is).1)

pub place_inside : (limits : Limits) (name text : List ℕ) (desc : FileDesc) (place : Place)
    → Describes limits name text desc → place.offset ≤ length text
    → IsInside limits text place
place_inside limits name text desc place (file, (ts, is, tree), unbroken, same) within =
    record { within = within; short = omega (arith, within, is.short) }
