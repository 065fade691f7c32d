-- Oneofs: those of the source, and then those that `optional` fields make.
use Rattle.std.specs.Prelude.{ℕ, Bool, List, [], ◌∷◌, ◌++◌, map, flat_map, cond}
use Rattle.proto_tree.specs.Name.{Identifier}
use Rattle.proto_tree.specs.declared.message.MessageItem.{MessageItem}
use Rattle.proto_desc.specs.declared.field.FieldDesc.{FieldDesc}
use Rattle.proto_desc.specs.declared.oneof.OneofDesc.{OneofDesc}
use Rattle.proto_lower.specs.Names.{oneof_name_of}
use Rattle.proto_options.specs.Statements.{message_oneof}

abbrev pub real_named : Identifier → OneofDesc
real_named n = record { name = n.text; place = n.span.start }

-- the oneofs that statements of a message are
abbrev pub real_oneofs : List MessageItem → List OneofDesc
real_oneofs is = map (λ o. real_named o.name) (flat_map message_oneof is)

abbrev pub names_of_fields : List FieldDesc → List (List ℕ)
names_of_fields fs = map (λ f. f.name) fs

abbrev pub names_of_oneofs : List OneofDesc → List (List ℕ)
names_of_oneofs os = map (λ o. o.name) os

-- the oneof of a field, where these names are taken
abbrev pub made_named : List (List ℕ) → FieldDesc → OneofDesc
made_named taken f = record { name = oneof_name_of taken f.name; place = f.place }

-- the oneofs so far and that of a field, if it is `optional`; the names of all fields and of the oneofs so far are
-- taken
abbrev pub with_one : List (List ℕ) → List OneofDesc → FieldDesc → Bool → List OneofDesc
with_one names so_far f is_optional =
    cond is_optional (so_far ++ made_named (names ++ names_of_oneofs so_far) f ∷ []) so_far

-- the oneofs so far and those of these fields, in their order
abbrev pub with_made : (names : List (List ℕ)) → List OneofDesc → List FieldDesc → List OneofDesc
with_made names so_far [] = so_far
with_made names so_far (f ∷ fs) = with_made names (with_one names so_far f f.proto3_optional) fs
