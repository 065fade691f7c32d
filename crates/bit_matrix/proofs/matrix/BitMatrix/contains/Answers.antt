use Rattle.std.proofs.Common.{◌∙◌, ℕ, ◌+◌, ◌*◌, ◌/◌}
use Rattle.std.proofs.lemmas.List.{get_or_default}
use Rattle.bit_matrix.specs.Bits.{Bits}
use Rattle.bit_matrix.specs.contracts.matrix.BitMatrix.{the_view}
use Rattle.bit_matrix.proofs.Words.{tested, word_inside}
use Rattle.bit_matrix.proofs.matrix.BitMatrix.contains.Goals as goal

pub returns : goal.returns
returns c =
    let bits : Bits = the_view c.self.inside in
    let row = rw (← c.self.view_is) at c.requires.row in
    let column = rw (← c.self.view_is) at c.requires.column in
    let place : ℕ = c.args.row * bits.width + c.args.column / 64 in
    rw (← c.self.view_is)
    (tested bits c.args.row c.args.column c.index.result.now
    (c.index.ensures ∙ get_or_default bits.words place c.index.result.now 0
    (word_inside bits c.self.invariant.1 c.args.row c.args.column row column)))
