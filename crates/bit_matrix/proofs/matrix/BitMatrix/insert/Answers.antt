use Rattle.std.proofs.Common.{◌∙◌, ℕ, ◌+◌, ◌*◌, ◌/◌}
use Rattle.std.proofs.lemmas.List.{get_or_default}
use Rattle.bit_matrix.specs.Bits.{Bits}
use Rattle.bit_matrix.specs.contracts.matrix.BitMatrix.{the_view}
use Rattle.bit_matrix.proofs.Words.{inserted, word_inside}
use Rattle.bit_matrix.proofs.matrix.BitMatrix.insert.Goals as goal

pub returns : goal.returns
returns c =
    let old : Bits = the_view c.self.inside in
    let row = rw (← c.self.view_is) at c.requires.row in
    let column = rw (← c.self.view_is) at c.requires.column in
    let at : ℕ = c.args.row * old.width + c.args.column / 64 in
    let word = c.index_mut.ensures.value
    ∙ get_or_default old.words at c.index_mut.result.now 0
    (word_inside old c.self.invariant.1 c.args.row c.args.column row column) in
    rw (← c.self.view_is, word) (inserted old c.self.invariant.1 c.args.row c.args.column row column)
