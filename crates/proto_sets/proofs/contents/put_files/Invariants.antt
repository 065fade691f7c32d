use Rattle.std.proofs.Common.{map, take}
use Rattle.proto_sets.specs.SaysSteps.{extension_of}
use Rattle.proto_sets.specs.SetSteps.{AreWalked, files_of}
use Rattle.proto_sets.proofs.contents.put_files.Given as goal

abbrev pub invariant-loop-at : goal.invariant-loop-at
invariant-loop-at l =
    AreWalked l.depth (take l.at (files_of l.files)) l.found.names (map extension_of l.found.extensions.items) l.heads.items
