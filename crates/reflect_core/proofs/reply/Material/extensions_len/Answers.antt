use Rattle.reflect_core.proofs.Common.{arith, common_steps}
use Rattle.proto_compilation.specs.Extensions.{numbers_of}
use Rattle.reflect_core.proofs.Numbering.{packed_none}
use Rattle.reflect_core.proofs.reply.Material.extensions_len.Goals as goal

pub returns-in-0 : goal.returns-in-0
returns-in-0 c =
    let numbers = numbers_of c.args.self.now.compiled.now.extensions c.args.message.now in
    let none = packed_none numbers (grind arith) in
    grind (arith, common_steps, none)
