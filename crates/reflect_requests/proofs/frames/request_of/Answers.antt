use Rattle.std.proofs.Common.{ap, Err}
use Rattle.reflect_requests.proofs.frames.request_of.Goals as goal

pub returns-in-Err-Malformed : goal.returns-in-Err-Malformed
returns-in-Err-Malformed c = λ (host, asked, reads). c.in-Err-Malformed.ensures.malformed
    (ap Err c.in-Err-Malformed.field-0-is) host asked reads
