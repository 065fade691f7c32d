use Rattle.proto_checks.proofs.Common.{◌≡◌, ◌++◌, take, map, flat_map, oneof_field, field_number, optioned_in_oneof}
use Rattle.proto_checks.proofs.gathered.put_members.Given as goal

abbrev pub invariant-loop-item : goal.invariant-loop-item
invariant-loop-item l = l.numbers.items ≡ l.initial.numbers.items
    ++ map field_number (map optioned_in_oneof (flat_map oneof_field (take l.item-index l.items)))
