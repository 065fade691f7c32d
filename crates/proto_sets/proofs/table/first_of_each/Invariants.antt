use Rattle.std.proofs.Common.{map, take}
use Rattle.proto_compilation.specs.Parts.{declared_extension}
use Rattle.proto_sets.specs.TableSteps.{IsTableOf, names_of}
use Rattle.proto_sets.proofs.table.first_of_each.Given as goal

abbrev pub invariant-loop-extension : goal.invariant-loop-extension
invariant-loop-extension l = IsTableOf (take l.extension-index (names_of l.sorted)) (map declared_extension l.table.items)
