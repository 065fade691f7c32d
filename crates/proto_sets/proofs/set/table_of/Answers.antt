use Rattle.proto_sets.proofs.Tabled.{named_differs, table_more}
use Rattle.proto_sets.proofs.set.table_of.Goals as goal

pub push-requires : goal.push-requires
push-requires c a named = named_differs c.args.files.now c.loop-file.file-index _ c.requires c.loop-file-test.true a
    (rw c.loop-file.invariant at named)

pub loop-file-preserved : goal.loop-file-preserved
loop-file-preserved c = rw (c.in_ok-push.ensures, c.in_ok-from_slice.ensures.items)
    (table_more c.args.files.now c.loop-file.file-index _ c.loop-file.table c.loop-file-test.true c.loop-file.invariant)
