use Rattle.proto_compile.proofs.Common.{◌≢◌, ℕ, ◌+◌, ◌<◌, name_at}
use Rattle.proto_compile.proofs.pass.list.first_repeated.Given as goal

abbrev pub invariant-loop-next : goal.invariant-loop-next
invariant-loop-next l = (k : ℕ) → k + 1 < l.next → name_at l.files k ≢ name_at l.files (k + 1)
