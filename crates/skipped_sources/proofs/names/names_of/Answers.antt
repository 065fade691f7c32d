use Rattle.std.proofs.Common.{arith}
use Rattle.skipped_sources.proofs.Naming.{names_more}
use Rattle.skipped_sources.proofs.names.names_of.Goals as goal

pub loop-source-preserved : goal.loop-source-preserved
loop-source-preserved c = names_more c.args.sources.now c.loop-source.source-index c.source-item.result
    c.as_str.result c.loop-source.names c.insert.new.self (omega arith) c.source-item.is c.as_str.ensures.value
    c.in_ok-insert.ensures.updates c.loop-source.invariant
