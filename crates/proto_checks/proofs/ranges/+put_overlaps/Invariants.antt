use Rattle.proto_checks.proofs.Common.{length}
use Rattle.proto_checks.proofs.ranges.+put_overlaps.Given as goal

abbrev pub decreases-put_overlaps : goal.decreases-put_overlaps
decreases-put_overlaps l = length l.ranges.now
