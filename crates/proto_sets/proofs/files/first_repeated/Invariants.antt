use Rattle.std.proofs.Common.{◌≢◌, ℕ, ◌+◌, ◌<◌}
use Rattle.proto_sets.specs.SetFaults.{name_at}
use Rattle.proto_sets.specs.SetSteps.{files_of}
use Rattle.proto_sets.proofs.files.first_repeated.Given as goal

abbrev pub invariant-loop-next : goal.invariant-loop-next
invariant-loop-next l =
    (k : ℕ) → k + 1 < l.next → name_at (files_of l.files) k ≢ name_at (files_of l.files) (k + 1)
