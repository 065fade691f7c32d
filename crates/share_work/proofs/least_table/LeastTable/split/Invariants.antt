use Rattle.share_work.proofs.least_table.LeastTable.split.Given as goal

abbrev pub ghosts-split_by : goal.ghosts-split_by
ghosts-split_by a = record { parts = a.parts }
