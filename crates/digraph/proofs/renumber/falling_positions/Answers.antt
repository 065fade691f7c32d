use Rattle.std.proofs.Common.{get_or}
use Rattle.digraph.proofs.Rows.{joined_two, same_members}
use Rattle.digraph.proofs.Renumbering.{map_members}
use Rattle.digraph.proofs.renumber.falling_positions.Goals as goal

pub returns : goal.returns
returns c j = joined_two (same_members _ _ j c.reverse.ensures.permutation)
    (joined_two (same_members _ _ j c.sort_unstable.ensures.permutation)
    (rw c.in_ok-row.ensures (map_members (λ b. get_or c.args.positions.now b 0) c.args.nodes.now j)))
