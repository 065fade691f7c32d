use Rattle.std.proofs.Common.{◌≡◌, ◌-◌, ◌≤◌, ◌++◌, length, take}
use Rattle.first_reach.specs.Reply.{others_at}
use Rattle.first_reach.proofs.replying.Replying.add_others.Given as goal

abbrev pub invariant-loop-file : goal.invariant-loop-file
invariant-loop-file g l = (l.k ≤ length (g.F.Reach.list l.self.reach.now l.root))
    × (l.files.items ≡ l.fn.files.items ++ others_at l.self.least.now l.position l.root
    (take l.k (g.F.Reach.list l.self.reach.now l.root)))

abbrev pub decreases-loop-file : goal.decreases-loop-file
decreases-loop-file g l = length (g.F.Reach.list l.self.reach.now l.root) - l.k
