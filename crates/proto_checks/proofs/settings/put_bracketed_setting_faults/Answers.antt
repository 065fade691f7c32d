use Rattle.proto_checks.proofs.Common.{◌≡◌, [], arith, common_steps, on_ok_weaker}
use Rattle.proto_options.specs.Options.{bracketed}
use Rattle.proto_checks.proofs.Settling.{one_breaks}
use Rattle.proto_checks.proofs.settings.put_bracketed_setting_faults.Goals as goal

pub returns-then-is_empty : goal.returns-then-is_empty
returns-then-is_empty c =
    let alone : c.as_slice.result.now ≡ [] = grind (arith, common_steps) in
    rw (c.in-Some.is, ← c.get-listed.ensures, ← c.as_slice.ensures, alone)
    (on_ok_weaker _ (one_breaks _ _) (rw c.setting_fault.ensures at c.put_found.ensures))

pub returns : goal.returns
returns c =
    c.put_setting_faults.ensures c.args.element (bracketed c.args.options.now) (grind (arith, common_steps))
