use Rattle.proto_compile.proofs.Common.{arith, compilation}
use Rattle.proto_compile.proofs.LeastFault.{told, set_least}
use Rattle.proto_compile.proofs.Making.{coherent}
use Rattle.proto_compile.proofs.compiling.compilation_of.Goals as goal

pub new-requires : goal.new-requires
new-requires c =
    coherent c.requires.0 (compilation c.args.limits.now c.args.files c.args.links c.args.index) c.requires.1

pub returns-in_default-clause-first : goal.returns-in_default-clause-first
returns-in_default-clause-first c sources is =
    let long = rw c.in_default.is at c.new.ensures in
    let c' = compilation c.args.limits.now c.args.files c.args.links c.args.index in
    grind (arith, told, set_least c.args.limits.now sources c' is long)
