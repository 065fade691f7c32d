use Rattle.std.proofs.Common.{◌≡◌, ℕ, List, flat_map, map, take}
use Rattle.skipped_sources.specs.Losing.{HoldsNames, extent_of, extents}
use Rattle.skipped_sources.specs.Lost.{lost_of}
use Rattle.skipped_sources.proofs.finding.lost_in_file.Given as goal

abbrev pub invariant-loop-statement : goal.invariant-loop-statement
invariant-loop-statement l = (listed : List (List ℕ)) → HoldsNames listed l.names
    → extents l.spans.items
    ≡ map extent_of (flat_map (lost_of listed) (take l.statement-index l.file.statements))
