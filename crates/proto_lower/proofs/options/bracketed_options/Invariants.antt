use Rattle.std.proofs.Common.{◌≡◌, take, flat_map}
use Rattle.proto_options.specs.Options.{bracketed}
use Rattle.proto_lower.proofs.OptionRows.{option_by_row}
use Rattle.proto_lower.proofs.options.bracketed_options.Given as goal

abbrev pub invariant-loop-rule : goal.invariant-loop-rule
invariant-loop-rule l = l.set.items ≡ flat_map (option_by_row (bracketed l.options)) (take l.rule-index l.rules)
