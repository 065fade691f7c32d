-- What the parser's matches ask for, by what it found behind a command's name.
use Rattle.std.proofs.Common.{◌≡◌, ℕ, List, Some}
use Rattle.std.specs.Option.{option_map}
use Rattle.clap.specs.Matches.{subcommand_name_of}
use Rattle.clap.specs.Simple.{subcommand_rows_of}
use Rattle.clap.specs.Walk.{rows_of}
use Rattle.clap.specs.declared.parser.matches.ArgMatches.{ArgMatches}
use Rattle.clap.specs.declared.parser.matches.Found.{Found}
use Rattle.schema_command_line.specs.Tasks.{IsAsked, IsTaskNamed, IsVerbosity}
use Rattle.schema_command_line.specs.declared.task.Asked.{Asked}

pub asked : (matches : ArgMatches) (name : List ℕ) (found : Found) (a : Asked) → subcommand_name_of matches ≡ Some name
    → option_map (λ row. row.1) (subcommand_rows_of matches) ≡ Some (rows_of found)
    → IsTaskNamed name found a.task → IsVerbosity found a.verbosity → IsAsked matches a
asked matches name found a called rows task verbosity = record {
  name = name;
  found = found;
  called = called;
  rows = rows;
  task = task;
  verbosity = verbosity;
}
