use Rattle.proto_checks.proofs.Common.{◌≡◌, take, map, flat_map, judged}
use Rattle.proto_checks.proofs.settings.settings_of.Given as goal

abbrev pub invariant-loop-item : goal.invariant-loop-item
invariant-loop-item g l = l.settings.items ≡ map (judged l.element)
    (flat_map g.I.Item.setting_of (take l.item-index l.items))
