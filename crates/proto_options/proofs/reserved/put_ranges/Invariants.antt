use Rattle.std.proofs.Common.{◌≡◌, ◌++◌}
use Rattle.proto_options.specs.Statements.{ranges_in}
use Rattle.proto_tree.specs.Items.{items_left}
use Rattle.proto_options.proofs.reserved.put_ranges.Given as goal

abbrev pub invariant-loop-range : goal.invariant-loop-range
invariant-loop-range g l = l.ranges.items ++ items_left l.range-iterator ≡ l.initial.ranges.items ++ ranges_in l.items
