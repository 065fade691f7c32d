use Rattle.proto_checks.proofs.Common.{gains_all}
use Rattle.proto_checks.proofs.file.found_faults.Goals as goal

pub returns : goal.returns
returns c = gains_all (rw c.new-faults.ensures.items at c.in_ok-put_file_faults.ensures)
