use Rattle.grpcweb_core.proofs.Judging.{is_target, not_of_path}
use Rattle.grpcweb_core.proofs.target.is_target_of.Goals as goal

pub returns-in-Some : goal.returns-in-Some
returns-in-Some c =
    let cases = rw (c.as_bytes.ensures.value, c.as_bytes-2.ensures.value) at c.in-Some.ensures.cases in
    let target = is_target c.args.path.now c.args.target.now c.in-Some.query.now cases.0 cases.1 in (
      λ yes. target.0 (c.is_empty_or_begins.ensures.0 yes),
      λ of. c.is_empty_or_begins.ensures.1 (target.1 of),
    )

pub returns-in-None : goal.returns-in-None
returns-in-None c =
    let other = rw (c.as_bytes.ensures.value, c.as_bytes-2.ensures.value) at c.in-None.ensures.cases in
    (λ yes. absurd (cc), λ of. absurd (not_of_path c.args.path.now c.args.target.now other of))
