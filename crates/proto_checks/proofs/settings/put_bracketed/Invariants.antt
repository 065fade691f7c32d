use Rattle.proto_checks.proofs.Common.{◌≡◌, ◌++◌, map, items_left, separated, judged}
use Rattle.proto_checks.proofs.settings.put_bracketed.Given as goal

abbrev pub invariant-loop-setting : goal.invariant-loop-setting
invariant-loop-setting l = l.settings.items ++ map (judged l.fn.element) (items_left l.setting-iterator)
    ≡ l.initial.settings.items ++ map (judged l.fn.element) (separated l.options.settings)
