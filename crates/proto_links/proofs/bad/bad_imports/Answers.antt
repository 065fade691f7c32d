use Rattle.std.specs.Prelude.{IfSome}
use Rattle.std.specs.Option.{is_some}
use Rattle.digraph.specs.Ranks.{IsRanked}
use Rattle.digraph.specs.declared.ranks.Ranking.{Ranking}
use Rattle.proto_links.proofs.Common.{◌≡◌, ◌∙◌, sym, arith, true, List, Option, Some, None, FileDesc, Graph, IsGraph}
use Rattle.proto_links.specs.Graphs.{HasNoWayBack}
use Rattle.proto_links.proofs.Positions.{graph_within, ranked_straight, rows_within}
use Rattle.proto_links.proofs.bad.bad_imports.Goals as goal
use Rattle.proto_links.proofs.bad.bad_imports.Goals.{then-is_some+in_ok-put_missing, else-is_some+in_ok-put_bad}

pub rank_nodes-requires : goal.rank_nodes-requires
rank_nodes-requires c = rw c.deref.ensures.value (rows_within _ (graph_within c.in_ok-graph.ensures.imports))

-- where there are ranks
straight : {files : List FileDesc} {g : Graph} (found : Option Ranking) → IsGraph files g
    → IfSome found (λ ranking. IsRanked g ranking.ranks.items) → is_some found ≡ true → HasNoWayBack files
straight None is ranked some = absurd (grind arith)
straight (Some ranking) is ranked some = ranked_straight is ranked

pub put_missing-requires-clause-no_way_back : goal.put_missing-requires-clause-no_way_back
put_missing-requires-clause-no_way_back c = straight _ c.in_ok-graph.ensures.imports
    (rw c.deref.ensures.value at c.in_ok-rank_nodes.ensures.ranks) (sym c.is_some.ensures ∙ c.if-is_some.true)

pub returns : goal.returns
returns c = elim c.if-is_some.branch [
  | then-is_some+in_ok-put_missing w ↦ rw w.bad-is w.in_ok-put_missing.ensures
  | else-is_some+in_ok-put_bad w ↦ rw w.bad-is w.in_ok-put_bad.ensures
]
