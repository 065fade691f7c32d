use Rattle.std.proofs.Common.{arith}
use Rattle.std.proofs.lemmas.Grind.{common_steps}
use Rattle.std.specs.Fmt.{decimal}
use Rattle.std.specs.Str.Parse.{ExplainsUnsignedError, HasUnsignedDigitsIfOk}
use Rattle.schema_command_line.proofs.Numbers.{number_read}
use Rattle.schema_command_line.proofs.task.plan_of.Goals as goal

pub returns : goal.returns
returns c = λ workers cut has_workers has_cut some few one most.
    let w = number_read (λ bs r. ExplainsUnsignedError 10 bs r)
    (λ bs r. HasUnsignedDigitsIfOk bs r) 32 workers c.get_one.result
    (omega (arith, few)) (omega (arith, few)) (c.get_one.ensures.value (decimal workers) has_workers) in
    let k = number_read (λ bs r. ExplainsUnsignedError 10 bs r)
    (λ bs r. HasUnsignedDigitsIfOk bs r) 32 cut c.get_one-2.result
    (omega (arith, most)) (omega (arith, most)) (c.get_one-2.ensures.value (decimal cut) has_cut) in
    grind (arith, common_steps)
