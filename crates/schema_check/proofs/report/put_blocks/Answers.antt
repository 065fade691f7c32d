use Rattle.std.proofs.Common.{[], arith, string_bytes}
use Rattle.schema_check.proofs.Opening.{open_within}
use Rattle.schema_check.proofs.Reporting.{lies_within, told_more, told_none}
use Rattle.schema_check.proofs.report.put_blocks.Goals as goal

pub loop-at-init : goal.loop-at-init
loop-at-init c = told_none c.args.form c.args.limits.now c.args.places.now c.args.sources.now [] c.in_ok-file.file _
    (c.in_ok-file.ensures c.args.sources.now c.in_ok-named.ensures)

pub put_said-requires-clause-within : goal.put_said-requires-clause-within
put_said-requires-clause-within c =
    open_within c.args.form c.args.limits.now c.args.places.now c.args.sources.now c.index-faults-at.result
    c.in_ok-file-2.file
    (c.in_ok-file-2.ensures c.args.sources.now c.in_ok-named.ensures c.loop-at.invariant.open_is)
    (lies_within c.args.sources.now c.args.faults.now c.loop-at.at c.index-faults-at.result (omega arith)
    c.index-faults-at.is c.requires.placed)

pub put_said-requires-clause-short : goal.put_said-requires-clause-short
put_said-requires-clause-short c =
    (lies_within c.args.sources.now c.args.faults.now c.loop-at.at c.index-faults-at.result (omega arith)
    c.index-faults-at.is c.requires.placed).short

pub loop-at-preserved : goal.loop-at-preserved
loop-at-preserved c =
    let opens = c.in_ok-file-2.ensures c.args.sources.now c.in_ok-named.ensures c.loop-at.invariant.open_is in
    told_more c.args.form c.args.limits.now c.args.places.now c.args.sources.now c.args.faults.now c.loop-at.at
    c.index-faults-at.result c.loop-at.file c.in_ok-file-2.file _ (string_bytes c.loop-at.report)
    (string_bytes c.put_said.new.report) (omega arith) c.index-faults-at.is c.loop-at.invariant opens
    (c.in_ok-put_said.ensures c.args.limits.now c.args.sources.now opens)
