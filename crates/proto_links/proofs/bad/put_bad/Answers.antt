use Rattle.proto_links.proofs.Common.{arith, joined_two, edge_below, length_graph, graph_of}
use Rattle.std.proofs.lemmas.Bool.Decides.{nat_tests}
use Rattle.proto_links.proofs.AllBad.{bad_all, bad_skip}
use Rattle.proto_links.proofs.Faulting.{imports_is, reaching_is}
use Rattle.proto_links.proofs.Positions.{graph_within, rows_within}
use Rattle.proto_links.proofs.bad.put_bad.Goals as goal
use Rattle.proto_links.proofs.bad.put_bad.Goals.{then-not-is_empty+in_ok-reaching+in_ok-put_bad_of, else-not-is_empty}

pub predecessors-requires : goal.predecessors-requires
predecessors-requires c = rows_within _ (graph_within c.requires.graph)

pub mark_reached-requires-clause-within : goal.mark_reached-requires-clause-within
mark_reached-requires-clause-within c a b edge =
    let back = (c.in_ok-turned.ensures.turned a b).0 (rw c.deref.ensures.value at edge) in
    omega (
      arith,
      edge_below (graph_of c.args.imports.now) b a back,
      c.in_ok-turned.ensures.size,
      length_graph c.args.imports.now,
    )

pub put_bad_of-requires-clause-reaching : goal.put_bad_of-requires-clause-reaching
put_bad_of-requires-clause-reaching c b named = rw c.deref-then-not-is_empty.ensures.value (joined_two
    (rw c.deref.ensures.value at (c.in_ok-reaching.ensures.marked b))
    (reaching_is _ _ _ _ c.requires.graph c.in_ok-turned.ensures.turned _))

pub loop-file-preserved : goal.loop-file-preserved
loop-file-preserved c = elim c.if-not-is_empty.branch [
  | then-not-is_empty+in_ok-reaching+in_ok-put_bad_of w ↦ rw w.bad-is w.in_ok-put_bad_of.ensures
  | else-not-is_empty w ↦ rw w.bad-is (bad_skip c.loop-file.invariant (grind (arith, nat_tests, imports_is)))
]

pub returns : goal.returns
returns c = bad_all c.loop-file.invariant (omega arith)
