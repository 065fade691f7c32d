use Rattle.std.proofs.Common.{◌≡◌, ◌++◌, map}
use Rattle.proto_options.specs.Statements.{names_in}
use Rattle.proto_tree.specs.Items.{items_left}
use Rattle.proto_options.proofs.reserved.put_names.Given as goal

abbrev pub invariant-loop-name : goal.invariant-loop-name
invariant-loop-name g l = map (λ name. name.now) l.names.items ++ items_left l.name-iterator
    ≡ map (λ name. name.now) l.initial.names.items ++ names_in l.items
