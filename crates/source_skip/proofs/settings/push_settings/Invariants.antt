use Rattle.std.proofs.Common.{◌≡◌, ◌++◌, drop, map}
use Rattle.source_skip.specs.ProgramSettings.{entry_of}
use Rattle.source_skip.specs.ProgramTokens.{span_of}
use Rattle.source_skip.specs.Skipped.{gone_later, gone_within}
use Rattle.source_skip.proofs.settings.push_settings.Given as goal

abbrev pub invariant-loop-entry : goal.invariant-loop-entry
invariant-loop-entry l =
    l.spans.items ++ map span_of (gone_later l.stands (drop l.entry-index (map entry_of l.later)))
    ≡ l.fn.spans.items ++ map span_of (gone_within (map entry_of l.entries))
