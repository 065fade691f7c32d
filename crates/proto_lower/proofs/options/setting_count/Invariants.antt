use Rattle.std.proofs.Common.{◌≡◌, [], take, flat_map}
use Rattle.proto_lower.proofs.options.setting_count.Given as goal

abbrev pub invariant-loop-item : goal.invariant-loop-item
invariant-loop-item g l = l.count ≡ 0 → flat_map g.I.Item.setting_of (take l.item-index l.items) ≡ []
