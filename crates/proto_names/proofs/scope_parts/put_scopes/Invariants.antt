use Rattle.proto_names.proofs.Common.{List, ℕ, IsTrue, IsAsLarge, take}
use Rattle.proto_names.specs.ScopeParts.{TellsParts, tells_part}
use Rattle.proto_names.proofs.scope_parts.put_scopes.Given as goal

abbrev pub invariant-loop-position : goal.invariant-loop-position
invariant-loop-position l = record {
  large : IsAsLarge l.initial.bits l.bits;
  kept : (before part : List ℕ) → IsTrue (tells_part l.initial.bits l.slots before part)
      → IsTrue (tells_part l.bits l.slots before part);
  told : TellsParts (take l.position l.names) l.bits l.slots;
}
