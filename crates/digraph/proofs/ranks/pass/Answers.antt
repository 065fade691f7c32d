use Rattle.digraph.proofs.Common.{Contains-get_or}
use Rattle.digraph.proofs.ranks.pass.Goals as goal

pub bounds-marks-successors : goal.bounds-marks-successors
bounds-marks-successors c = c.requires.room _
    (Contains-get_or c.args.successors.now c.loop-count.count 0 c.loop-count-test.true)
