use Rattle.proto_names.proofs.Common.{ℕ, ◌<◌, IsTrue, SeenBy, at, fits}
use Rattle.proto_names.proofs.visible.sees_entry.Given as goal

-- none before the position is of such a kind in a file that is seen
abbrev pub invariant-loop-position : goal.invariant-loop-position
invariant-loop-position l = (k : ℕ) → k < l.position → IsTrue (fits l.role (at l.names k).kind)
    → SeenBy l.links l.file (at l.names k).file → ⊥
