use Rattle.proto_links.proofs.Common.{arith, common_steps}
use Rattle.proto_links.proofs.Positions.{graph_within, public_within, rows_within}
use Rattle.proto_links.proofs.positioned.by_positions.Goals as goal

pub renumber_rows-requires-clause-within : goal.renumber_rows-requires-clause-within
renumber_rows-requires-clause-within c = rw c.deref.ensures.value (rows_within _ (graph_within c.requires.imports))

pub renumber_rows-requires-2-clause-within : goal.renumber_rows-requires-2-clause-within
renumber_rows-requires-2-clause-within c = rw c.deref-4.ensures.value
    (rows_within _ (public_within c.requires.public_imports))

pub returns : goal.returns
returns c = grind (arith, common_steps)
