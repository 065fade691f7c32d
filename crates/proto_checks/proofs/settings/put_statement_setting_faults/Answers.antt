use Rattle.proto_checks.proofs.settings.put_statement_setting_faults.Goals as goal

pub returns : goal.returns
returns g c = c.put_setting_faults.ensures _ _ (rw c.deref.ensures.value c.in_ok-settings.ensures)
