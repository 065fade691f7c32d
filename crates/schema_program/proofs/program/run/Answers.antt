use Rattle.clap.specs.declared.parser.matches.ArgMatches.{ArgMatches}
use Rattle.std.specs.Result.{result_ok}
use Rattle.schema_command_line.specs.Tasks.{IsAsked}
use Rattle.schema_program.proofs.Ending.{some_of_ok}
use Rattle.schema_program.proofs.program.run.Goals as goal

pub returns : goal.returns
returns g c = record {
  asked = result_ok c.asked_of-asked.result;
  found = some_of_ok (λ one. (matches : ArgMatches) × IsAsked matches one) c.asked_of-asked.result
      c.asked_of-asked.ensures;
  ended = c.end_of.result;
  run = c.end_of.ensures;
  number = c.code.ensures.code;
}
