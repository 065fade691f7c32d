use Rattle.proto_checks.proofs.Common.{◌≡◌, ◌++◌, map, Each, Gains, IsWrongOnField, items_left, separated}
use Rattle.proto_checks.proofs.field_options.put_all_wrong_on_field.Given as goal

abbrev pub invariant-loop-setting : goal.invariant-loop-setting
invariant-loop-setting l = let seen = map (λ setting. setting.now) l.yielded in record {
  gains : Gains (Each seen (IsWrongOnField l.fn.can_be_packed l.fn.is_wide_integer)) l.initial.faults.items
      l.faults.items;
  listed : seen ++ items_left l.setting-iterator ≡ separated l.options.settings;
}
