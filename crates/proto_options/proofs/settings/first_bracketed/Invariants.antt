use Rattle.std.proofs.Common.{◌≡◌}
use Rattle.proto_options.specs.Options.{bracketed, first_setting}
use Rattle.proto_tree.specs.Items.{items_left}
use Rattle.proto_options.proofs.settings.first_bracketed.Given as goal

abbrev pub invariant-loop-listed : goal.invariant-loop-listed
invariant-loop-listed l =
    first_setting l.word (items_left l.listed-iterator) ≡ first_setting l.word (bracketed l.options)
