use Rattle.std.proofs.Common.{◌≡◌, map, Ok}
use Rattle.proto_compile.proofs.outcome.judge.Given as goal

abbrev pub invariant-loop-outcome : goal.invariant-loop-outcome
invariant-loop-outcome g l = map Ok l.all.items ≡ l.yielded
