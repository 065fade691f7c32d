use Rattle.std.proofs.lemmas.Result.{IfOk-weaker}
use Rattle.proto_sets.specs.Sets.{IsOfSet}
use Rattle.proto_sets.proofs.OneReading.{every_compilation, every_fault}
use Rattle.proto_sets.proofs.PassLeast.{no_fault_at_all}
use Rattle.proto_sets.proofs.set.read_set.Goals as goal

pub returns-clause-whole : goal.returns-clause-whole
returns-clause-whole c = IfOk-weaker c.read_passes.result (IsOfSet c.args.limits.now c.args.set.now) _
    (λ s is x fault. no_fault_at_all c.args.limits.now c.args.set.now s x is fault.breaks)
    c.read_passes.ensures.read

pub returns-clause-every_compilation : goal.returns-clause-every_compilation
returns-clause-every_compilation c = every_compilation c.args.limits.now c.args.set.now c.read_passes.result
    c.read_passes.ensures.read c.read_passes.ensures.first

pub returns-clause-every_fault : goal.returns-clause-every_fault
returns-clause-every_fault c = every_fault c.args.limits.now c.args.set.now c.read_passes.result
    c.read_passes.ensures.read c.read_passes.ensures.first
