use Rattle.std.proofs.Common.{arith}
use Rattle.std.specs.Fmt.{decimal}
use Rattle.std.specs.Str.Parse.{ExplainsUnsignedError, HasUnsignedDigitsIfOk}
use Rattle.schema_command_line.proofs.Numbers.{number_read}
use Rattle.schema_command_line.proofs.task.client_seconds_in.Goals as goal

pub returns : goal.returns
returns c = record {
  counted = λ n small has. number_read (λ bs r. ExplainsUnsignedError 10 bs r)
      (λ bs r. HasUnsignedDigitsIfOk bs r) 32 n c.get_one.result small (omega (arith, small))
      (c.get_one.ensures.value (decimal n) has);
  endless = c.get_one.ensures.none;
}
