use Rattle.proto_links.specs.Graphs.{AreBadTo}
use Rattle.proto_links.proofs.bad.put_missing.Given as goal

abbrev pub invariant-loop-file : goal.invariant-loop-file
invariant-loop-file l = AreBadTo l.files l.file l.bad.items
