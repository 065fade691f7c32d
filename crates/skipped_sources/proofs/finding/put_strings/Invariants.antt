use Rattle.std.proofs.Common.{◌≡◌, ◌∷◌, ◌++◌, map, take}
use Rattle.skipped_sources.specs.Losing.{extent_of, extents}
use Rattle.skipped_sources.proofs.Losses.{literal_token}
use Rattle.skipped_sources.proofs.finding.put_strings.Given as goal

abbrev pub invariant-loop-literal : goal.invariant-loop-literal
invariant-loop-literal l = extents l.spans.items ≡ extents l.fn.spans.items
    ++ map extent_of (literal_token l.value.first ∷ map literal_token (take l.literal-index l.value.rest))
