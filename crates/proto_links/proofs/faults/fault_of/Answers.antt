use Rattle.proto_links.proofs.Common.{◌∙◌, sym, arith, false≢true, missing, cyclic}
use Rattle.proto_links.proofs.Faulting.{only_missing, only_cyclic, no_fault}
use Rattle.proto_links.proofs.faults.fault_of.Goals as goal

pub returns-in-None : goal.returns-in-None
returns-in-None c =
    let none = rw c.as_str.ensures at c.in-None.ensures in
    (missing none, only_missing _ _ c.args.import.now none)

pub returns-then-reaching-target : goal.returns-then-reaching-target
returns-then-reaching-target c =
    let named = rw c.as_str.ensures at c.in-Some.ensures in
    let back = (c.requires.reaching c.in-Some.target named).0
    (omega arith, c.if-reaching-target.true) in (
      cyclic c.in-Some.target named back,
      only_cyclic _ _ c.args.import.now _ named,
    )

pub returns-else-reaching-target : goal.returns-else-reaching-target
returns-else-reaching-target c =
    let named = rw c.as_str.ensures at c.in-Some.ensures in
    no_fault _ _ c.args.import.now _ c.requires.order named
    (λ r. false≢true (sym c.if-reaching-target.false ∙ ((c.requires.reaching c.in-Some.target named).1 r).1))
