use Rattle.proto_checks.proofs.Common.{◌≡◌, map, arith, common_steps, map-append, each_append, each_nil, each_single, gains_none, gains_same, gains_union, separated}
use Rattle.proto_checks.proofs.field_options.put_all_wrong_on_field.Goals as goal

pub loop-setting-init : goal.loop-setting-init
loop-setting-init c = record { gains = gains_none (each_nil _); listed = grind (arith, common_steps) }

pub loop-setting-preserved : goal.loop-setting-preserved
loop-setting-preserved c = record {
  gains = rw (map-append (λ setting. setting.now) c.loop-setting.yielded _) (gains_same
      (gains_union c.loop-setting.invariant.gains (gains_same c.in_ok-put_wrong_on_field.ensures (each_single _ _)))
      (each_append _ _ _));
  listed = grind (arith, common_steps);
}

pub returns : goal.returns
returns c =
    let all : map (λ setting. setting.now) c.loop-setting.yielded ≡ separated c.args.options.now.settings =
    grind (arith, common_steps) in
    rw all at c.loop-setting.invariant.gains
