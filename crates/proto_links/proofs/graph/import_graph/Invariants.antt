use Rattle.proto_links.proofs.Faulting.{Graphing}
use Rattle.proto_links.proofs.graph.import_graph.Given as goal

abbrev pub invariant-loop-file : goal.invariant-loop-file
invariant-loop-file l = Graphing l.files l.file-index l.imports.items l.public_imports.items l.is_whole
