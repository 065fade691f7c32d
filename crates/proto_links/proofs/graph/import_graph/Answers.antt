use Rattle.proto_links.proofs.Common.{◌∙◌, sym, ap, arith, inl, inr, graph_of, graph_push, imports_of}
use Rattle.proto_links.proofs.Faulting.{graphing_more, importer_inside, imports_is, rows_all}
use Rattle.proto_links.proofs.graph.import_graph.Goals as goal
use Rattle.proto_links.proofs.graph.import_graph.Goals.{then-is_whole, else-is_whole}

pub loop-file-preserved : goal.loop-file-preserved
loop-file-preserved c =
    let imports = c.as_slice.ensures ∙ ap imports_of c.file-item.is
    ∙ sym (imports_is c.args.files.now c.loop-file.file-index c.file-item.result (omega arith)) in
    let targets = c.in_ok-targets.targets in
    let are = c.in_ok-targets.ensures in
    graphing_more _ _ c.loop-file.invariant imports
    (ap graph_of c.in_ok-push.ensures.items ∙ graph_push c.loop-file.imports.items targets.all)
    (ap graph_of c.in_ok-push-2.ensures.items ∙ graph_push c.loop-file.public_imports.items targets.public)
    (elim c.if-is_whole.branch [
      | then-is_whole w ↦ inl (w.if-is_whole.true, w.is_whole-is)
      | else-is_whole w ↦ inr (w.if-is_whole.false, w.is_whole-is)
    ]) are.all are.public are.whole are.part

pub returns-clause-imports : goal.returns-clause-imports
returns-clause-imports c = record {
  size = c.loop-file.invariant.all_rows.size ∙ omega arith;
  edges = rows_all c.loop-file.invariant.all_rows (omega arith) (λ a b i. importer_inside _ a i.0 i.1);
}

pub returns-clause-public : goal.returns-clause-public
returns-clause-public c = record {
  size = c.loop-file.invariant.public_rows.size ∙ omega arith;
  edges = rows_all c.loop-file.invariant.public_rows (omega arith) (λ a b i. importer_inside _ a i.0 i.1);
}

pub returns-clause-whole : goal.returns-clause-whole
returns-clause-whole c t a m =
    c.loop-file.invariant.found t a (omega (arith, importer_inside c.args.files.now a m.0 m.1)) m
