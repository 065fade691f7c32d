use Rattle.digraph.proofs.Common.{◌∙◌, ◌≡◌, length, arith, Edge, graph_of}
use Rattle.digraph.proofs.Rows.{edge_below, written, length_graph, below_more}
use Rattle.digraph.proofs.search.predecessors.Goals as goal

pub loop-node-init : goal.loop-node-init
loop-node-init c = record {
  size = omega (arith, length_graph c.args.graph.now, c.in_ok-rows.ensures.size);
  edges = λ b a. (λ edge. absurd (c.in_ok-rows.ensures.empty b a edge), λ w. absurd (omega (arith, w.0)));
}

pub turn-requires : goal.turn-requires
turn-requires c = record {
  room = λ b w. omega (arith, c.requires c.loop-node.node b (rw c.row.ensures at w), length_graph c.args.graph.now);
}

pub loop-node-preserved : goal.loop-node-preserved
loop-node-preserved c =
    let len : length c.turn.new.rows ≡ length c.loop-node.rows.items = omega arith in
    rw (written _ _ _ c.loop-node.rows.ok.0 len) (record {
      size = len ∙ c.loop-node.invariant.size;
      edges = λ b a. below_more (λ x. Edge (graph_of c.args.graph.now) x b) c.loop-node.node a
          (rw c.deref_mut.ensures.value at (c.in_ok-turn.ensures b a)) (c.loop-node.invariant.edges b a)
          (rw c.row.ensures (λ w. w, λ w. w));
    })

pub returns-clause-turned : goal.returns-clause-turned
returns-clause-turned c b a = (
  λ edge. ((c.loop-node.invariant.edges b a).0 edge).1,
  λ edge. (c.loop-node.invariant.edges b a).1
      (omega (arith, edge_below (graph_of c.args.graph.now) a b edge, length_graph c.args.graph.now), edge),
)
