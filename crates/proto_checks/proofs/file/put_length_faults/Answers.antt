use Rattle.proto_checks.proofs.Common.{gains_last}
use Rattle.proto_checks.proofs.file.put_length_faults.Goals as goal

pub returns : goal.returns
returns c = gains_last _ _ _ c.in_ok-put_long_packages.ensures c.put_declared_length_faults.ensures
