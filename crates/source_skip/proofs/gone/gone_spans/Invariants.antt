use Rattle.std.proofs.Common.{◌+◌, length, map, option_map}
use Rattle.std.specs.Option.{option_map_or}
use Rattle.source_skip.specs.ProgramFronts.{front_of}
use Rattle.source_skip.specs.ProgramTokens.{spelled}
use Rattle.source_skip.proofs.Fronts.{SpansGoOn}
use Rattle.source_skip.proofs.gone.gone_spans.Given as goal

abbrev pub invariant-loop-next : goal.invariant-loop-next
invariant-loop-next l = SpansGoOn l.closes.items (map spelled l.tokens) l.spans.items (option_map front_of l.next)

abbrev pub decreases-loop-next : goal.decreases-loop-next
decreases-loop-next l = option_map_or (λ f. length f.rest.now + 1) l.next 0
