use Rattle.proto_checks.proofs.file.check_faults.Goals as goal

pub returns-clause-all : goal.returns-clause-all
returns-clause-all c = λ x.
    let kept = c.sort_spots.ensures.same x in
    let found = c.in_ok-faults.ensures x in
    (λ h. found.0 (kept.0 h), λ h. kept.1 (found.1 h))
