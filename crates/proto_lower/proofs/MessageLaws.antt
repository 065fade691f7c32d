-- The oneofs of the lowered form of a message.
use Rattle.proto_lower.proofs.Common.{◌≡◌, ◌∙◌, ap, ℕ, List, [], ◌∷◌, length, arith, Some, slice_get, FieldDesc, inner, real_count, source_oneofs, fields_of, oneofs_of, fields_in, IsOptionalBehind, index_behind, names_before, all_fields, lowered_message, real_named, real_oneofs, made_named, names_of_fields, with_made}
use Rattle.proto_tree.specs.declared.message.Message.{Message}
use Rattle.proto_tree.specs.declared.oneof.Oneof.{Oneof}
use Rattle.proto_desc.specs.declared.message.MessageDesc.TheViews.{out-roll-MessageDesc}
use Rattle.proto_lower.proofs.MadeOneofs.{made_count, length-with_made, slice_get-with_made, with_made-start, get_start}
use Rattle.proto_lower.proofs.MemberIndexes.{slice_get-real_oneofs, length-real_oneofs, members-all}
use Rattle.proto_lower.proofs.OneofIndexes.{members, AllIndexed, fields-indexed, optional-index, sole-member}

oneofs-lowered : (scope : List ℕ) (m : Message) → oneofs_of (lowered_message scope m)
    ≡ with_made (names_of_fields (all_fields (inner scope m.name.text) m.items)) (real_oneofs m.items)
    (all_fields (inner scope m.name.text) m.items)
oneofs-lowered scope m = ap (λ d. d.oneofs) (out-roll-MessageDesc _)

fields-lowered : (scope : List ℕ) (m : Message)
    → fields_of (lowered_message scope m) ≡ all_fields (inner scope m.name.text) m.items
fields-lowered scope m = ap (λ d. d.fields) (out-roll-MessageDesc _)

message-indexed : (scope : List ℕ) (m : Message) (fs : List FieldDesc) → fields_of (lowered_message scope m) ≡ fs
    → AllIndexed (real_count m.items) (real_count m.items) fs
message-indexed scope m fs is = grind (arith, fields-lowered, fields-indexed)

pub optional-index-lowered : (scope : List ℕ) (m : Message) (before : List FieldDesc) (field : FieldDesc)
    → IsOptionalBehind before field (lowered_message scope m) → field.oneof_index ≡ Some (index_behind before m)
optional-index-lowered scope m before field is =
    optional-index (real_count m.items) (real_count m.items) before field is.after is.optional
    (message-indexed scope m _ is.stands)

pub sole-member-lowered : (scope : List ℕ) (m : Message) (before : List FieldDesc) (field : FieldDesc)
    → IsOptionalBehind before field (lowered_message scope m)
    → fields_in (index_behind before m) (fields_of (lowered_message scope m)) ≡ field ∷ []
sole-member-lowered scope m before field is =
    ap (fields_in (index_behind before m)) is.stands
    ∙ sole-member (real_count m.items) (real_count m.items) before field is.after (omega arith) is.optional
    (message-indexed scope m _ is.stands)

-- the oneofs of a message, of which these are the fields
oneofs_by : (scope : List ℕ) (m : Message) (fs : List FieldDesc) → fields_of (lowered_message scope m) ≡ fs
    → oneofs_of (lowered_message scope m) ≡ with_made (names_of_fields fs) (real_oneofs m.items) fs
oneofs_by scope m fs is = grind (arith, oneofs-lowered, fields-lowered)

pub optional-oneof-lowered : (scope : List ℕ) (m : Message) (before : List FieldDesc) (field : FieldDesc)
    → IsOptionalBehind before field (lowered_message scope m)
    → slice_get (oneofs_of (lowered_message scope m)) (index_behind before m)
    ≡ Some (made_named (names_before (index_behind before m) (lowered_message scope m)) field)
optional-oneof-lowered scope m before field is = grind (arith, oneofs_by, slice_get-with_made, length-real_oneofs)

pub source-oneof-lowered : (scope : List ℕ) (m : Message) (index : ℕ) (o : Oneof)
    → slice_get (source_oneofs m) index ≡ Some o
    → slice_get (oneofs_of (lowered_message scope m)) index ≡ Some (real_named o.name)
source-oneof-lowered scope m index o stands =
    let fs : List FieldDesc = all_fields (inner scope m.name.text) m.items in
    let made = with_made-start (names_of_fields fs) (real_oneofs m.items) fs in
    rw (oneofs-lowered scope m, made.1)
    (get_start (real_oneofs m.items) made.0 index (real_named o.name) (slice_get-real_oneofs m.items index o stands))

pub members-lowered : (scope : List ℕ) (m : Message) (index : ℕ) (o : Oneof)
    → slice_get (source_oneofs m) index ≡ Some o
    → fields_in index (fields_of (lowered_message scope m)) ≡ members index o.items
members-lowered scope m index o stands = grind (arith, fields-lowered, members-all)

pub count-lowered : (scope : List ℕ) (m : Message)
    → length (oneofs_of (lowered_message scope m)) ≡ index_behind (fields_of (lowered_message scope m)) m
count-lowered scope m = grind (arith, oneofs_by, length-with_made, made_count, length-real_oneofs)
