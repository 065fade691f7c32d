-- Words of the laws on the lowered form of a message.
use Rattle.std.specs.Prelude.{ℕ, ◌+◌, ◌≡◌, ◌==◌, Bool, true, false, List, ◌∷◌, ◌++◌, take, Option, Some, None}
use Rattle.std.specs.List.{count_by, filter, flat_map}
use Rattle.proto_tree.specs.declared.message.Message.{Message}
use Rattle.proto_tree.specs.declared.oneof.Oneof.{Oneof}
use Rattle.proto_desc.specs.declared.field.FieldDesc.{FieldDesc}
use Rattle.proto_desc.specs.declared.message.MessageDesc.{MessageDesc}
use Rattle.proto_desc.specs.declared.message.MessageDesc.TheViews.{out-MessageDesc}
use Rattle.proto_desc.specs.declared.oneof.OneofDesc.{OneofDesc}
use Rattle.proto_lower.specs.Fields.{real_count}
use Rattle.proto_lower.specs.Oneofs.{names_of_fields, names_of_oneofs}
use Rattle.proto_options.specs.Statements.{message_oneof}

-- the oneofs of a message in the source, in their order
abbrev pub source_oneofs : Message → List Oneof
source_oneofs m = flat_map message_oneof m.items

-- the fields of a lowered message
abbrev pub fields_of : MessageDesc → List FieldDesc
fields_of m = (out-MessageDesc m).fields

-- the oneofs of a lowered message, those of the source and those that are made
abbrev pub oneofs_of : MessageDesc → List OneofDesc
oneofs_of m = (out-MessageDesc m).oneofs

-- whether the oneof of a field, if it has one, has this index
abbrev pub has_index : ℕ → Option ℕ → Bool
has_index index None = false
has_index index (Some i) = i == index

-- those of the fields that are members of the oneof with this index
abbrev pub fields_in : ℕ → List FieldDesc → List FieldDesc
fields_in index fields = filter (λ f. has_index index f.oneof_index) fields

-- a field of the message is `optional`, and these are the fields before it
pub record IsOptionalBehind (before : List FieldDesc) (field : FieldDesc) (message : MessageDesc) : Type 0 where
  pub after : List FieldDesc
  pub stands : fields_of message ≡ before ++ field ∷ after
  pub optional : field.proto3_optional ≡ true

-- the index behind all oneofs of the source and those that these fields make
abbrev pub index_behind : List FieldDesc → Message → ℕ
index_behind before m = real_count m.items + count_by (λ f. f.proto3_optional) before

-- the names that a oneof made at this index may not have: those of all fields, and of the oneofs before it
abbrev pub names_before : ℕ → MessageDesc → List (List ℕ)
names_before index message = names_of_fields (fields_of message) ++ names_of_oneofs (take index (oneofs_of message))
