use Rattle.proto_base.proofs.Sets.{least_same}
use Rattle.proto_checks.proofs.file.first_check_fault.Goals as goal

pub returns-in-Some : goal.returns-in-Some
returns-in-Some c = least_same _ _ _ (λ x. (c.in_ok-faults.ensures x).1) (λ x. (c.in_ok-faults.ensures x).0)
    (rw c.deref.ensures.value at c.in-Some.ensures)

pub returns : goal.returns
returns c = least_same _ _ _ (λ x. (c.in_ok-faults.ensures x).1) (λ x. (c.in_ok-faults.ensures x).0)
    (rw c.deref.ensures.value at c.in-None.ensures)
