use Rattle.std.proofs.Common.{length}
use Rattle.grpcweb_service.proofs.line.told_by.Given as goal

abbrev pub decreases-loop-frame : goal.decreases-loop-frame
decreases-loop-frame l = length l.rest
