use Rattle.std.proofs.Common.{arith}
use Rattle.proto_compile.proofs.LeastFault.{told, many_least, repeated_least}
use Rattle.proto_compile.proofs.Sorting.{strictly, name_is}
use Rattle.proto_compile.proofs.pass.list.files_by_name.Goals as goal

pub returns-then-sources-get-clause-first : goal.returns-then-sources-get-clause-first
returns-then-sources-get-clause-first c = grind (arith, told, many_least)

pub returns-in-Some-clause-first : goal.returns-in-Some-clause-first
returns-in-Some-clause-first c = grind (arith, told, repeated_least, name_is)

pub returns-clause-files : goal.returns-clause-files
returns-clause-files c = strictly c.args.sources.now c.in_ok-files.files.items c.in_ok-files.ensures
    (rw c.deref.ensures.value at c.in-None.ensures)
