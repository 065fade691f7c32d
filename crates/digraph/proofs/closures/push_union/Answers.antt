use Rattle.digraph.proofs.Common.{get_or, arith, refl, Contains-get_or}
use Rattle.std.proofs.lemmas.Result.{on_ok_weaker}
use Rattle.digraph.proofs.Closing.{one_long, union_of_one}
use Rattle.digraph.proofs.closures.push_union.Goals as goal

pub push_extended-requires : goal.push_extended-requires
push_extended-requires c = c.requires.nodes (get_or c.args.nodes.now 0 0)
    (Contains-get_or c.args.nodes.now 0 0 (omega arith))

pub returns-in-len1-clause-union : goal.returns-in-len1-clause-union
returns-in-len1-clause-union c =
    let inside = c.requires.nodes _ (Contains-get_or c.args.nodes.now 0 0 (omega arith)) in
    on_ok_weaker c.push_extended.result (λ appended. (
      _,
      appended,
      union_of_one _ _ _ _ _ (one_long _ c.in-len1.len_at_least c.in-len1.len_below) refl (c.requires.rises _ inside)
          (λ x w. c.requires.below _ x inside w),
    )) c.push_extended.ensures.appended
