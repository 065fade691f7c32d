use Rattle.std.proofs.Common.{◌≡◌, ◌+◌, ◌<◌, ℕ}
use Rattle.source_folder.specs.Ordered.{path_at}
use Rattle.source_folder.proofs.order.have_twins.Given as goal

abbrev pub invariant-loop-next : goal.invariant-loop-next
invariant-loop-next l = record {
  some : 0 < l.next;
  apart : (k : ℕ) → k + 1 < l.next → path_at l.sources k ≡ path_at l.sources (k + 1) → ⊥;
}
