use Rattle.std.proofs.Common.{arith}
use Rattle.reflect_requests.proofs.FrameRows.{one_row, one_reading}
use Rattle.reflect_requests.proofs.frames.frames_are_unique.Goals as goal

pub returns-clause-row : goal.returns-clause-row
returns-clause-row c = one_row c.args.limits (omega arith)

pub returns-clause-reading : goal.returns-clause-reading
returns-clause-reading c = one_reading c.args.limits (omega arith)
