-- No place of a descriptor is the start of its text: the keyword of the syntax statement stands there, or behind it.
use Rattle.std.proofs.Common.{◌≡◌, ◌∙◌, sym, ℕ, ◌+◌, ◌<◌, List, [], ◌∷◌, arith}
use Rattle.proto_base.specs.declared.limits.Limits.{Limits}
use Rattle.proto_desc.specs.Places.{places_of}
use Rattle.proto_desc.specs.declared.file.FileDesc.{FileDesc}
use Rattle.proto_syntax.specs.Grammar.{flatten}
use Rattle.proto_syntax.specs.Trees.{file_tree, row, statement_tree, syntax_tree}
use Rattle.proto_tokens.proofs.CutLemmas.{piece_nonempty}
use Rattle.proto_tokens.specs.Spelling.{Piece, IsCutIntoPieces, mark_len, tokens_from}
use Rattle.proto_tokens.specs.Token.{Spelled}
use Rattle.proto_file.specs.Local.{Describes}
use Rattle.proto_file.proofs.LocalPlaces.{pieces_in}
use Rattle.proto_file.proofs.PlacesWithin.{AreIn, BeginWithin, begun, lowered_within, split}

abbrev pub IsAfter : ℕ → Type 0
IsAfter place = 0 < place

abbrev rest_of : List Spelled → List Spelled
rest_of [] = []
rest_of (t ∷ ts) = ts

rest_after : (s : List ℕ) (from : ℕ) (ps : List Piece) (to : ℕ) → IsCutIntoPieces s from ps to
    → BeginWithin IsAfter (rest_of (tokens_from from ps))
rest_after s from [] to cut = tt
rest_after s from (p ∷ ps) to cut =
    let some : 0 < p.len = piece_nonempty _ p.len p.is cut.0 in
    let later = pieces_in IsAfter s (from + p.len) ps to (λ k low high. omega (arith, some, low)) cut.1 in
    grind (arith, rest_after s (from + p.len) ps to cut.1)

pub places_after : (limits : Limits) (name text : List ℕ) (desc : FileDesc) → Describes limits name text desc
    → AreIn IsAfter (places_of desc)
places_after limits name text desc (file, (ts, is, tree), unbroken, same) =
    let spelled : tokens_from (mark_len text) is.spelled_so.0 ≡ flatten (file_tree file) =
    is.spelled_so.2 ∙ sym tree.tokens in
    let after = rw spelled at (rest_after text (mark_len text) is.spelled_so.0 _ is.spelled_so.1) in
    let (syntax, statements) = split (λ (t : Spelled). IsAfter t.start)
    (rest_of (flatten (syntax_tree file.syntax))) (flatten (row statement_tree file.statements)) after in
    rw same (lowered_within IsAfter name file (begun IsAfter (row statement_tree file.statements) statements))
