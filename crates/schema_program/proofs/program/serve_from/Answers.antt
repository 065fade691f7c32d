use Rattle.schema_program.proofs.program.serve_from.Goals as goal

pub returns-in-Sources : goal.returns-in-Sources
returns-in-Sources g c = rw c.in-Sources.is (rw c.folder_of-folder.ensures at c.run_serve.ensures)
