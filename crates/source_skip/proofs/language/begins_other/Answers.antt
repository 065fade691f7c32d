use Rattle.std.proofs.Common.{◌≡◌, true, false, List, [], ◌∷◌, refl, sym, ◌∙◌}
use Rattle.proto_tokens.specs.Token.{Spelled}
use Rattle.source_skip.specs.Languages.{begins_other, is_syntax}
use Rattle.source_skip.specs.ProgramPieces.{tokens_behind}
use Rattle.source_skip.specs.ProgramTokens.{spelled}
use Rattle.source_skip.proofs.language.begins_other.Goals as goal

other_first : (s : Spelled) (ts : List Spelled) → is_syntax s ≡ false → true ≡ begins_other (s ∷ ts)
other_first s [] h = rw h refl
other_first s (t ∷ []) h = rw h refl
other_first s (t ∷ u ∷ ts) h = rw h refl

pub returns-then-not-is_word : goal.returns-then-not-is_word
returns-then-not-is_word c =
    let tokens = rw c.mark_len.ensures.len at c.in-Some.ensures.token in
    rw tokens (other_first (spelled c.in-Some.syntax) (tokens_behind c.args.text.now c.in-Some.syntax.span.end)
    (sym c.is_word.ensures ∙ c.if-not-is_word.true))
