use Rattle.digraph.proofs.Common.{eqb, lit<, IsDistinct-IsPermutation, IsStrictlyIncreasing-from_distinct}
use Rattle.std.specs.Cmp.{nat_eq_equiv}
use Rattle.std.proofs.lemmas.List.Sorted.{IsNonDecreasingBy-from_sort}
use Rattle.digraph.proofs.Rows.{joined_both, joined_two, same_members, one_only}
use Rattle.digraph.proofs.Closing.{none_are}
use Rattle.digraph.proofs.closures.union_of.Goals as goal

pub gather-requires-clause-marked : goal.gather-requires-clause-marked
gather-requires-clause-marked c = none_are _ _ c.requires.none c.new-union.ensures.items

pub returns-clause-union : goal.returns-clause-union
returns-clause-union c = record {
  rises = IsStrictlyIncreasing-from_distinct _ (IsNonDecreasingBy-from_sort (λ x. x) _ c.sort_unstable.ensures.sorted)
      (IsDistinct-IsPermutation eqb nat_eq_equiv.symm _ _ c.sort_unstable.ensures.permutation
      c.in_ok-visit.ensures.marked.once);
  members = λ x. joined_two (same_members _ _ x c.sort_unstable.ensures.permutation)
      (joined_both (c.in_ok-visit.ensures.added x) (c.in_ok-gather.ensures.gathered x)
      (one_only c.args.own x, λ e. (0, lit< tt, e)));
}
