use Rattle.proto_checks.proofs.Common.{each_flat, gains_as, gains_last, service_rpc}
use Rattle.proto_checks.proofs.service.put_service_faults.Goals as goal

pub returns : goal.returns
returns c =
    let own = rw c.as_slice-items.ensures at c.in_ok-put_statement_setting_faults.ensures in
    let methods = rw c.as_slice-items.ensures at c.put_each.ensures in
    gains_last _ _ _ own (gains_as _ _ _ methods (each_flat _ service_rpc _))
