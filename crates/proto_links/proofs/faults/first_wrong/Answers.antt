use Rattle.std.proofs.Common.{take_all, arith}
use Rattle.proto_links.proofs.Faulting.{first_more, first_skip, prefix_more}
use Rattle.proto_links.proofs.faults.first_wrong.Goals as goal
use Rattle.proto_links.proofs.faults.first_wrong.Goals.{in-Some, in_default}

pub loop-import-preserved : goal.loop-import-preserved
loop-import-preserved c =
    let imports = c.args.imports.now in
    let k = c.loop-import.import-index in
    let i = c.import-item.result in
    rw (prefix_more imports k i (omega arith) c.import-item.is) (elim c.match-fault_of.branch [
      | in-Some w ↦ rw w.first-is
          (first_more _ _ _ _ _ c.loop-import.invariant _ _ w.in-Some.ensures w.lesser-first.ensures)
      | in_default w ↦ rw w.first-is (first_skip _ _ _ _ _ c.loop-import.invariant w.in_default.ensures)
    ])

pub returns : goal.returns
returns c =
    rw (take_all c.loop-import.import-index c.args.imports.now (omega arith)) at c.loop-import.invariant
