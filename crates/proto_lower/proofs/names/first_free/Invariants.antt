use Rattle.proto_lower.proofs.Common.{◌≡◌, ◌+◌, ℕ, string_bytes, contains_text, first_free}
use Rattle.proto_lower.proofs.names.first_free.Given as goal

abbrev pub invariant-loop : goal.invariant-loop
invariant-loop l = (left : ℕ) → left + l.counter ≡ l.most
    → first_free (contains_text l.taken) left (string_bytes l.name) ≡ first_free (contains_text l.taken) l.most
    (string_bytes l.initial.name)
