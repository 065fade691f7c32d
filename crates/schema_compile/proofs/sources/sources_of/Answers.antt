use Rattle.std.proofs.Common.{arith}
use Rattle.std.proofs.lemmas.Grind.{common_steps}
use Rattle.schema_compile.proofs.sources.sources_of.Goals as goal

pub loop-text-preserved : goal.loop-text-preserved
loop-text-preserved c =
    let names = c.loop-text.invariant.named in
    let bytes = c.loop-text.invariant.bytes in
    record { named = grind (arith, common_steps); bytes = grind (arith, common_steps) }
