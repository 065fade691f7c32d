use Rattle.proto_lower.proofs.Common.{◌≡◌, ◌++◌, ◌+◌, ◌≤◌, drop, fields_from}
use Rattle.proto_lower.specs.Fields.{inner}
use Rattle.proto_lower.proofs.field.put_fields.Given as goal

abbrev pub invariant-loop-item : goal.invariant-loop-item
invariant-loop-item l = record {
  same : l.scope ≡ l.initial.scope;
  fields : l.out.items ++ fields_from (inner l.initial.scope l.message) l.next_real l.next_made (drop l.item-index l.items)
      ≡ l.initial.out.items ++ fields_from (inner l.initial.scope l.message) 0 l.real l.items;
  real_most : l.next_real ≤ l.item-index;
  made_most : l.next_made ≤ l.real + l.item-index;
}
