use Rattle.proto_links.proofs.Common.{◌≡◌, ◌+◌, ◌<◌, ℕ, Less, nat_cmp, slice_cmp, name_at}
use Rattle.proto_links.proofs.order.in_name_order.Given as goal

abbrev pub invariant-loop-next : goal.invariant-loop-next
invariant-loop-next l = record {
  some : 0 < l.next;
  pairs : (k : ℕ) → k + 1 < l.next → slice_cmp nat_cmp (name_at l.files k) (name_at l.files (k + 1)) ≡ Less;
}
