use Rattle.std.proofs.Common.{arith}
use Rattle.source_skip.specs.ProgramSettings.{entry_of}
use Rattle.source_skip.proofs.Entries.{later_pushed}
use Rattle.source_skip.proofs.settings.push_settings.Goals as goal

pub loop-entry-preserved : goal.loop-entry-preserved
loop-entry-preserved c = later_pushed entry_of c.in-Some.later.now c.loop-entry.entry-index _ (omega arith)
    c.loop-entry.stands c.loop-entry.spans.items c.push_entry-in-loop-entry.new.spans.items _
    c.in_ok-push_entry-2.ensures c.loop-entry.invariant
