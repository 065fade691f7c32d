use Rattle.std.proofs.Common.{◌≡◌, take}
use Rattle.proto_sets.specs.SetSteps.{files_of}
use Rattle.proto_sets.proofs.set.table_of.Given as goal

abbrev pub invariant-loop-file : goal.invariant-loop-file
invariant-loop-file l = l.table ≡ take l.file-index (files_of l.files)
