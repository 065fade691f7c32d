use Rattle.digraph.proofs.Common.{get_or, arith, IsStrictlyIncreasing-dedup, Contains-get_or, Edge, graph_of}
use Rattle.std.proofs.lemmas.List.Filters.{dedup_is}
use Rattle.std.proofs.lemmas.List.Kept.{Contains-dedup_nat, Contains-from_dedup}
use Rattle.digraph.proofs.Rows.{joined_where, joined_all_where, joined_two, among_some, among_some_all, same_members, edge_below, length_graph}
use Rattle.digraph.proofs.ranks.next_ready.Goals as goal

pub row-requires : goal.row-requires
row-requires c = c.requires.settled (get_or c.args.settled.now c.loop-node.node-index 0)
    (Contains-get_or c.args.settled.now c.loop-node.node-index 0 (omega arith))

pub append_ready-requires-clause-nodes : goal.append_ready-requires-clause-nodes
append_ready-requires-clause-nodes c a w =
    let edge = (c.requires.turned _ a).0 (rw c.row.ensures at w) in
    omega (arith, edge_below (graph_of c.args.graph.now) a _ edge, length_graph c.args.graph.now)

pub loop-node-preserved : goal.loop-node-preserved
loop-node-preserved c = record {
  are = c.in_ok-append_ready.ensures.passed;
  found = λ a. joined_where (rw c.row.ensures at (c.in_ok-append_ready.ensures.ready a)) (c.loop-node.invariant.found a)
      (c.requires.turned (get_or c.args.settled.now c.loop-node.node-index 0) a)
      (among_some (Edge (graph_of c.args.graph.now) a) c.args.settled.now c.loop-node.node-index);
}

pub returns-clause-rises : goal.returns-clause-rises
returns-clause-rises c = rw (dedup_is _ _ _ c.dedup.ensures.filtered)
    (IsStrictlyIncreasing-dedup _ c.sort_unstable.ensures.sorted)

pub returns-clause-members : goal.returns-clause-members
returns-clause-members c a =
    let some = among_some_all (Edge (graph_of c.args.graph.now) a) c.args.settled.now _ (omega arith) in
    rw (dedup_is _ _ _ c.dedup.ensures.filtered) (joined_two
    (Contains-from_dedup _ c.sort_unstable.new.self.items a, Contains-dedup_nat c.sort_unstable.new.self.items a)
    (joined_two (same_members _ _ a c.sort_unstable.ensures.permutation)
    (joined_all_where (c.loop-node.invariant.found a) some)))
