use Rattle.share_work.proofs.mark_table.MarkTable.split.Given as goal

abbrev pub ghosts-split_by : goal.ghosts-split_by
ghosts-split_by g a = record { parts = a.parts }
