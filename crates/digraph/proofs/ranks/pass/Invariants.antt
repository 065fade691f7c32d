use Rattle.digraph.proofs.Common.{◌-◌, length, IsPassed}
use Rattle.digraph.proofs.ranks.pass.Given as goal

abbrev pub invariant-loop-count : goal.invariant-loop-count
invariant-loop-count l = IsPassed l.marks l.successors l.count

abbrev pub decreases-loop-count : goal.decreases-loop-count
decreases-loop-count l = length l.successors - l.count
