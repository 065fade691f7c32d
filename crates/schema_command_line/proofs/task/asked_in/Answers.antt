use Rattle.std.proofs.Common.{sym}
use Rattle.clap.specs.Matches.{found_of}
use Rattle.schema_command_line.proofs.Asking.{asked}
use Rattle.schema_command_line.proofs.task.asked_in.Goals as goal

pub returns : goal.returns
returns c =
    asked c.args.matches.now c.in-Some.name.now (found_of c.in-Some.found.now)
    (record { task = c.in-Some-2.task; verbosity = c.verbosity_of-verbosity.result })
    (sym c.in-Some.ensures.name) (sym c.in-Some.ensures.rows) (rw c.in-Some-2.is at c.in_ok-task.ensures)
    c.verbosity_of-verbosity.ensures
