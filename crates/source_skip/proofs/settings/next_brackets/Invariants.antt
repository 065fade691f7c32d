use Rattle.std.proofs.Common.{◌+◌, [], ◌∷◌, length, map}
use Rattle.std.specs.Option.{option_map_or}
use Rattle.source_skip.specs.ProgramSettings.{entry_of}
use Rattle.source_skip.specs.ProgramTokens.{spelled}
use Rattle.source_skip.proofs.Entries.{SettingsGoOn}
use Rattle.source_skip.proofs.settings.next_brackets.Given as goal

abbrev pub invariant-loop-next : goal.invariant-loop-next
invariant-loop-next l = SettingsGoOn l.closes (map spelled l.tokens) (map entry_of l.entries.items) l.mark
    (option_map_or (λ p. spelled p.0.now ∷ map spelled p.1.now) l.next [])

abbrev pub decreases-loop-next : goal.decreases-loop-next
decreases-loop-next l = option_map_or (λ p. length p.1.now + 1) l.next 0
