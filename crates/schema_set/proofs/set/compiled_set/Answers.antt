use Rattle.schema_set.proofs.set.compiled_set.Goals as goal

pub returns-clause-refused : goal.returns-clause-refused
returns-clause-refused g c = c.told.ensures c.args.limits.now _ c.in-Err.ensures.first
