use Rattle.proto_links.proofs.Common.{◌∙◌, sym, arith, joined_two, edge_below, length_graph, graph_of}
use Rattle.proto_links.proofs.Faulting.{none_more, first_bad_is, reaching_is, imports_is, importer_inside}
use Rattle.proto_links.proofs.faults.first_bad.Goals as goal

pub predecessors-requires : goal.predecessors-requires
predecessors-requires c a b edge =
    omega (arith, ((c.requires.graph.edges a b).0 edge).2.0, length_graph c.args.imports.now)

pub mark_reached-requires-clause-within : goal.mark_reached-requires-clause-within
mark_reached-requires-clause-within c a b edge =
    let back = (c.in_ok-turned.ensures.turned a b).0 (rw c.deref.ensures.value at edge) in
    omega (
      arith,
      edge_below (graph_of c.args.imports.now) b a back,
      c.in_ok-turned.ensures.size,
      length_graph c.args.imports.now,
    )

pub first_wrong-first-requires-clause-reaching : goal.first_wrong-first-requires-clause-reaching
first_wrong-first-requires-clause-reaching c b = rw c.deref-in-loop-file.ensures.value (joined_two
    (rw c.deref.ensures.value at (c.in_ok-reaching.ensures.marked b))
    (reaching_is _ _ _ _ c.requires.graph c.in_ok-turned.ensures.turned _))

pub returns-in-Some : goal.returns-in-Some
returns-in-Some c = first_bad_is
    (c.as_slice.ensures ∙ sym (imports_is c.args.files.now c.loop-file.file c.index-files-file.result (omega arith)))
    c.in-Some.is c.first_wrong-first.ensures c.loop-file.invariant

pub loop-file-preserved : goal.loop-file-preserved
loop-file-preserved c = none_more
    (c.as_slice.ensures ∙ sym (imports_is c.args.files.now c.loop-file.file c.index-files-file.result (omega arith)))
    c.in_default.is c.first_wrong-first.ensures c.loop-file.invariant

pub returns : goal.returns
returns c a p k w = c.loop-file.invariant.none a p k (omega (arith, importer_inside _ a w.0 w.1)) w
