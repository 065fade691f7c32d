use Rattle.proto_lower.proofs.Common.{◌≡◌, ◌++◌, drop, HoldsTaken, names_of_fields, names_of_oneofs, with_made}
use Rattle.proto_lower.proofs.oneof.put_made.Given as goal

abbrev pub invariant-loop-field : goal.invariant-loop-field
invariant-loop-field l = record {
  set : HoldsTaken (names_of_fields l.fields ++ names_of_oneofs l.oneofs.items) l.taken;
  made : with_made (names_of_fields l.fields) l.oneofs.items (drop l.field-index l.fields)
      ≡ with_made (names_of_fields l.fields) l.initial.oneofs.items l.fields;
}
