use Rattle.std.proofs.Common.{arith}
use Rattle.std.proofs.lemmas.Slice.Eq.{slice_eq-Decides}
use Rattle.std.proofs.lemmas.Bool.Decides.{Decides-eqb}
use Rattle.digraph.proofs.Sharing.{goes_on}
use Rattle.digraph.proofs.lists.put.Goals as goal

pub returns-then-ends_with-clause-holds : goal.returns-then-ends_with-clause-holds
returns-then-ends_with-clause-holds c = grind (arith, Decides-eqb, goes_on, slice_eq-Decides)
