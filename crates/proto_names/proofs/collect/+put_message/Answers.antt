use Rattle.std.proofs.Common.{arith, take_all}
use Rattle.proto_desc.proofs.Declared.{declared_out}
use Rattle.proto_names.proofs.collect.+put_message.Goals as goal

pub returns : goal.returns
returns t c = grind (arith, take_all, declared_out)
