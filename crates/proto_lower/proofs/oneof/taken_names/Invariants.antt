use Rattle.proto_lower.proofs.Common.{◌++◌, take, HoldsTaken, names_of_fields, names_of_oneofs}
use Rattle.proto_lower.proofs.oneof.taken_names.Given as goal

abbrev pub invariant-loop-field : goal.invariant-loop-field
invariant-loop-field l = HoldsTaken (names_of_fields (take l.field-index l.fields)) l.taken

abbrev pub invariant-loop-oneof : goal.invariant-loop-oneof
invariant-loop-oneof l = HoldsTaken (names_of_fields l.fields ++ names_of_oneofs (take l.oneof-index l.oneofs)) l.taken
