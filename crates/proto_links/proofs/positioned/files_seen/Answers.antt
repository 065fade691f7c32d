use Rattle.proto_links.proofs.positioned.files_seen.Goals as goal

pub reach_rows-requires-clause-falls : goal.reach_rows-requires-clause-falls
reach_rows-requires-clause-falls c = rw c.deref.ensures.value c.requires.public

pub join_successors-requires-clause-falls : goal.join_successors-requires-clause-falls
join_successors-requires-clause-falls c = rw c.deref-3.ensures.value c.requires.imports
