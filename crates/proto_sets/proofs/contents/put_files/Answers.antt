use Rattle.std.proofs.Common.{rules}
use Rattle.proto_sets.proofs.FileByFile.{silent_tells, walked_next}
use Rattle.proto_sets.proofs.contents.put_files.Goals as goal

pub returns-in_err-put_named-clause-silent : goal.returns-in_err-put_named-clause-silent
returns-in_err-put_named-clause-silent c =
    let so = c.loop-at.invariant in
    let fact = silent_tells c.args.depth c.args.files.now c.loop-at.at _ so.contents c.in_err-put_named.field-0.0
    c.loop-at-test.true so.each c.in_err-put_named.ensures.silent in
    search (rules, fact)

pub loop-at-preserved : goal.loop-at-preserved
loop-at-preserved c =
    let (said, says, names, extensions) = c.in_ok-put_named.ensures.put in
    rw c.in_ok-push.ensures.items (walked_next c.args.depth c.args.files.now c.loop-at.at _ _ _ _ _ _
    (record { head = c.in_ok-put_named.field-0; said = said }) c.loop-at-test.true c.loop-at.invariant says
    names extensions)
