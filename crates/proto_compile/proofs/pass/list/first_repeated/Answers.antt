use Rattle.proto_compile.proofs.Common.{arith, true≢false, cases_lt}
use Rattle.proto_compile.proofs.pass.list.first_repeated.Goals as goal

pub loop-next-preserved : goal.loop-next-preserved
loop-next-preserved c = grind (arith, true≢false, cases_lt)

pub returns-then-is_repeated : goal.returns-then-is_repeated
returns-then-is_repeated c = grind arith
