use Rattle.std.proofs.Common.{arith}
use Rattle.std.proofs.lemmas.List.{with_items_is}
use Rattle.bit_matrix.specs.Bits.{Bits}
use Rattle.bit_matrix.specs.contracts.matrix.BitMatrix.{the_view}
use Rattle.bit_matrix.proofs.Joining.{joined, rows_apart}
use Rattle.bit_matrix.proofs.matrix.BitMatrix.join.Goals as goal

pub join_words-requires-clause-apart : goal.join_words-requires-clause-apart
join_words-requires-clause-apart c = rows_apart c.self.inside.width c.args.row c.args.other

pub returns : goal.returns
returns c =
    let old : Bits = the_view c.self.inside in
    let are = rw c.deref_mut.ensures.value at c.join_words.ensures in
    let written = with_items_is c.self.inside.words c.join_words.new.words
    (omega (arith, are.size, c.self.inside.words.ok.0)) in
    rw (← c.self.view_is, written) (joined old c.args.row c.args.other c.join_words.new.words are)
