use Rattle.std.proofs.Common.{◌≡◌, take, flat_map}
use Rattle.proto_lower.proofs.OptionRows.{option_by_row}
use Rattle.proto_lower.proofs.options.options_of.Given as goal

abbrev pub invariant-loop-rule : goal.invariant-loop-rule
invariant-loop-rule g l =
    l.set.items ≡ flat_map (option_by_row (flat_map g.I.Item.setting_of l.items)) (take l.rule-index l.rules)
