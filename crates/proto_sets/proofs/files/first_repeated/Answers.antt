use Rattle.std.proofs.Common.{arith, true≢false}
use Rattle.std.proofs.lemmas.List.{length-map}
use Rattle.std.proofs.lemmas.Bool.{cases_lt}
use Rattle.proto_sets.proofs.files.first_repeated.Goals as goal

pub loop-next-preserved : goal.loop-next-preserved
loop-next-preserved c = grind (arith, true≢false, cases_lt)

pub returns-then-is_repeated : goal.returns-then-is_repeated
returns-then-is_repeated c = grind (arith, length-map)
