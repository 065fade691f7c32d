use Rattle.proto_compile.proofs.analysing.links_and_index.Goals as goal

pub returns-then-workers-eq1-clause-unlinked : goal.returns-then-workers-eq1-clause-unlinked
returns-then-workers-eq1-clause-unlinked g c sources files described =
    c.link_all.ensures.first c.args.limits.now sources files described

pub returns-clause-unlinked : goal.returns-clause-unlinked
returns-clause-unlinked g c sources files described =
    c.join_mut.ensures.0.met.0.1 c.args.limits.now sources files described
