use Rattle.std.proofs.Common.{sym}
use Rattle.digraph.proofs.Joining.{row_pushed}
use Rattle.digraph.proofs.reachable.push_joined.Goals as goal

pub returns : goal.returns
returns c = row_pushed _ _ _ _ _ _ c.requires.label
    (λ b inside. rw c.requires.node (c.requires.successors b inside)) c.in_ok-push_row.ensures.pushed
    (rw (sym c.requires.node) at c.insert.ensures) (rw (sym c.requires.node) at c.join_rows.ensures)
