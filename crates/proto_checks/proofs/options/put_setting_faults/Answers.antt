use Rattle.proto_checks.proofs.Common.{on_ok_weaker}
use Rattle.proto_checks.proofs.Settling.{judged_break}
use Rattle.proto_checks.proofs.options.put_setting_faults.Goals as goal

pub returns : goal.returns
returns c = λ element given made. on_ok_weaker _
    (λ twice. judged_break c.in_ok-put_own_faults.ensures twice element given made) c.put_options_twice.ensures
