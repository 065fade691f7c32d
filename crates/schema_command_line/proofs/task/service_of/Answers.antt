use Rattle.std.proofs.Common.{arith}
use Rattle.std.proofs.lemmas.Grind.{common_steps}
use Rattle.std.specs.Fmt.{decimal}
use Rattle.std.specs.Str.Parse.{ExplainsUnsignedError, HasUnsignedDigitsIfOk}
use Rattle.schema_command_line.proofs.Numbers.{number_read}
use Rattle.schema_command_line.proofs.task.service_of.Goals as goal

pub returns : goal.returns
returns c = record {
  listen = c.listen_in.ensures;
  connections = c.connections_in.ensures;
  clients = λ n small has.
      let is = number_read (λ bs r. ExplainsUnsignedError 10 bs r) (λ bs r. HasUnsignedDigitsIfOk bs r) 32 n
      c.get_one.result small (omega (arith, small)) (c.get_one.ensures.value (decimal n) has) in
      grind (arith, common_steps);
  client_seconds = c.client_seconds_in.ensures;
}
