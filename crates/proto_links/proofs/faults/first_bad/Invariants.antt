use Rattle.proto_links.proofs.Faulting.{NoneBefore}
use Rattle.proto_links.proofs.faults.first_bad.Given as goal

abbrev pub invariant-loop-file : goal.invariant-loop-file
invariant-loop-file l = NoneBefore l.files l.file
