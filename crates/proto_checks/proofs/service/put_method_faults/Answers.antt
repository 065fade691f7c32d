use Rattle.proto_checks.proofs.service.put_method_faults.Goals as goal

pub returns : goal.returns
returns c = rw c.rpc_items.ensures at c.put_statement_setting_faults.ensures
