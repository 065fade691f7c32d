use Rattle.grpcweb_core.proofs.Judging.{is_type}
use Rattle.grpcweb_core.proofs.content_type.is_of_type.Goals as goal

pub returns-then-eq_ignore_ascii_case : goal.returns-then-eq_ignore_ascii_case
returns-then-eq_ignore_ascii_case c =
    let cases = rw c.as_bytes.ensures.value at c.in-Some.ensures.cases in
    let same = rw c.as_bytes-in-Some.ensures.value at (c.eq_ignore_ascii_case.ensures.test.0
    c.if-eq_ignore_ascii_case.true) in
    let type = is_type c.args.media.now c.args.content_type.now c.in-Some.name.now _ cases.1 cases.2 same in
    (λ yes. type.0 (c.is_behind_type.ensures.0 yes), λ of. c.is_behind_type.ensures.1 (type.1 of))
