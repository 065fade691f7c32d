use Rattle.share_work.proofs.PieceRows.{one_member, only_gains, one_has, one_row}
use Rattle.share_work.proofs.shares.rows.own_row.Goals as goal

pub returns-in_err-row_of-clause-gains : goal.returns-in_err-row_of-clause-gains
returns-in_err-row_of-clause-gains g c = let made = c.in_err-row_of.ensures in
    only_gains _ _ _ _ _ _ _ _ _ c.requires.one record { kept = made.kept; within = made.within }

pub returns-in_err-push_back-clause-gains : goal.returns-in_err-push_back-clause-gains
returns-in_err-push_back-clause-gains g c = let made = c.in_ok-row_of.ensures in
    only_gains _ _ _ _ _ _ _ _ _ c.requires.one record { kept = made.kept; within = made.within }

pub returns-clause-gains : goal.returns-clause-gains
returns-clause-gains g c = let made = c.in_ok-row_of.ensures in
    only_gains _ _ _ _ _ _ _ _ _ c.requires.one record { kept = made.kept; within = made.within }

pub returns-clause-have : goal.returns-clause-have
returns-clause-have g c = rw (one_member c.args.seats.now c.requires.one).1
    (one_has _ _ _ _ _ _ _ record { gained = c.in_ok-row_of.ensures.gained })

pub returns-clause-rows : goal.returns-clause-rows
returns-clause-rows g c = rw (c.in_ok-push_back.ensures.items, c.new-rows.ensures.items, c.requires.one)
    (one_row _ _ _ _ _ _ _ _ c.in_ok-row_of.ensures.row)
