use Rattle.proto_names.proofs.table.EntryTable.named.Goals as goal

pub returns-clause-found : goal.returns-clause-found
returns-clause-found c o within = let w = (c.entries_named.ensures.named o).0 within in
    (rw (c.names.ensures, c.self.view_is) at w.0, w.1)

pub returns-clause-all : goal.returns-clause-all
returns-clause-all c o within name =
    (c.entries_named.ensures.named o).1 (rw (c.names.ensures, c.self.view_is) within, name)
