use Rattle.std.proofs.Common.{arith, take_all}
use Rattle.file_faults.proofs.NamedFaults.{faults_more}
use Rattle.file_faults.proofs.naming.all_named.Goals as goal

pub loop-at-preserved : goal.loop-at-preserved
loop-at-preserved c =
    let at = c.loop-at.at in
    let added = rw (c.as_slice.ensures.value, c.index-found-at.is) at c.in_ok-put_found.ensures in
    faults_more c.args.files.now c.args.found.now at _ c.index-found-at.result _ _ (omega arith) c.requires added
    c.loop-at.invariant

pub returns : goal.returns
returns c =
    let at = c.loop-at.at in
    rw (take_all at c.args.files.now (omega arith), take_all at c.args.found.now (omega arith)) at c.loop-at.invariant
