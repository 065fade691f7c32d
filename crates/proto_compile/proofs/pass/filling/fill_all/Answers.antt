use Rattle.proto_compile.proofs.pass.filling.fill_all.Goals as goal

pub returns-clause-each : goal.returns-clause-each
returns-clause-each g c = λ i d h links index a are.
    let at = (c.for_each_mut.ensures i d h).1 in
    rw (← at.argument_is, ← at.left) (at.call links index a (rw at.argument_is are))
