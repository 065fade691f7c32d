use Rattle.std.proofs.Common.{◌≤◌, length, map, take}
use Rattle.proto_sets.specs.SaysSteps.{extension_of}
use Rattle.proto_sets.specs.TableSteps.{AreNamed, names_of}
use Rattle.proto_sets.proofs.table.named.Given as goal

abbrev pub invariant-loop-extension : goal.invariant-loop-extension
invariant-loop-extension l =
    AreNamed (take l.extension-index (map extension_of l.extensions)) (names_of l.named.items)
    × (length l.named.items ≤ l.extension-index)
