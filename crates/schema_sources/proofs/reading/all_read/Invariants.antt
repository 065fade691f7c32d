use Rattle.std.proofs.Common.{◌≡◌, map, Ok}
use Rattle.schema_sources.proofs.reading.all_read.Given as goal

abbrev pub invariant-loop-outcome : goal.invariant-loop-outcome
invariant-loop-outcome l = map Ok l.texts.items ≡ l.yielded
