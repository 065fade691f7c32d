use Rattle.proto_links.proofs.Positions.{graph_within, rows_within, none_bad, no_cycle, none_missing}
use Rattle.proto_links.proofs.linking.link.Goals as goal
use Rattle.proto_links.proofs.linking.link.Goals.{in-Some+else-graph, in_default}

pub rank_nodes-requires : goal.rank_nodes-requires
rank_nodes-requires c = rw c.deref.ensures.value (rows_within _ (graph_within c.in_ok-graph.ensures.imports))

pub link_files-requires : goal.link_files-requires
link_files-requires c =
    let ranks = rw c.deref.ensures.value at (rw c.in-Some.is at c.in_ok-ranking.ensures.ranks) in
    record {
      none_bad = none_bad c.in_ok-graph.ensures.imports ranks (c.in_ok-graph.ensures.whole c.if-graph.true);
      imports = c.in_ok-graph.ensures.imports;
      public_imports = c.in_ok-graph.ensures.public;
      ranks = ranks;
      order = rw c.in-Some.is at c.in_ok-ranking.ensures.order;
    }

pub unreachable-requires : goal.unreachable-requires
unreachable-requires c =
    let none = rw c.in-None.is at c.in_ok-file.ensures in
    elim c.match-branch-3.branch [
      | in-Some+else-graph w ↦ (let (file, lacking) = c.in_ok-graph.ensures.part w.if-graph.false in
          none_missing _ none _ lacking)
      | in_default w ↦ (rw w.in_default.is at c.in_ok-ranking.ensures.none)
          (rw c.deref.ensures.value (no_cycle c.in_ok-graph.ensures.imports none))
    ]
