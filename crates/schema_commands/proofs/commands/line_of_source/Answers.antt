use Rattle.schema_commands.proofs.commands.line_of_source.Goals as goal

pub returns-in-Err-clause-refused : goal.returns-in-Err-clause-refused
returns-in-Err-clause-refused g c = c.told.ensures c.args.limits.now c.in-Err.ensures.first
