use Rattle.std.proofs.Common.{◌≡◌, drop}
use Rattle.std.specs.Prelude.{flat_map}
use Rattle.proto_options.specs.Options.{first_setting}
use Rattle.proto_options.proofs.settings.first_setting.Given as goal

abbrev pub invariant-loop-item : goal.invariant-loop-item
invariant-loop-item g l =
    first_setting l.word (flat_map g.I.Item.setting_of (drop l.item-index l.items))
    ≡ first_setting l.word (flat_map g.I.Item.setting_of l.items)
