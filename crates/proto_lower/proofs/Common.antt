-- What many proofs of this crate cite, passed on from one place.
pub use Rattle.std.proofs.Common.{◌≡◌, ◌≤◌, ◌<◌, ◌+◌, ℕ, zero, suc, Bool, true, false, cond, List, [], ◌∷◌, ◌++◌, sym, refl, length, arith, subst, if◌then◌else◌, ◌||◌, String, nat_cmp, ◌∙◌, ap, take, append_assoc, Some, slice_get, count_by, ◌==◌, flat_map, get_or, map, Option, take_all, add-one, slice_index, option_to_list, option_map, ◌⊎◌, ◌≢◌, encode_utf8, encode_utf8_all, drop, ◌-◌, string_bytes, inl, inr}
pub use Rattle.std.proofs.lemmas.Bool.Decides.{nat_tests}
pub use Rattle.std.proofs.lemmas.Grind.{common_steps}
pub use Rattle.std.proofs.lemmas.List.{append-nil, length-map}
pub use Rattle.std.proofs.lemmas.List.Folds.{list_any-append, flat_map-map}
pub use Rattle.std.specs.BTreeSet.{BTreeSet, contains_text}
pub use Rattle.std.specs.List.{prefix_len, range_with_len, list_any}
pub use Rattle.std.specs.Str.{bytes_eq, chars, IsUtf8}
pub use Rattle.proto_desc.specs.declared.field.FieldDesc.{FieldDesc}
pub use Rattle.proto_desc.specs.declared.oneof.OneofDesc.{OneofDesc}
pub use Rattle.proto_lower.specs.Enums.{value_desc, lowered_enum}
pub use Rattle.proto_lower.specs.Fields.{is_optional, real_count, fields_from, inner, member_at}
pub use Rattle.proto_lower.specs.Laws.{fields_in, source_oneofs, fields_of, oneofs_of, IsOptionalBehind, index_behind, names_before, has_index}
pub use Rattle.proto_lower.specs.Messages.{all_fields, lowered_message, message_of, nested_of, nested_row}
pub use Rattle.proto_lower.specs.Names.{first_free, with_underscore, behind_letters}
pub use Rattle.proto_lower.specs.Oneofs.{names_of_oneofs, made_named, with_one, with_made, real_named, real_oneofs, names_of_fields}
pub use Rattle.proto_lower.specs.Options.{option_under, option_at, option_by, options_of}
pub use Rattle.proto_lower.specs.Reserveds.{enum_range}
pub use Rattle.proto_lower.specs.Taken.{begins_as_made, HoldsTaken}
pub use Rattle.proto_options.specs.Statements.{message_oneof, oneof_field, enum_value, names_in, file_package, file_message, file_enum, file_service, message_enum, service_rpc}
pub use Rattle.proto_tree.specs.Text.{joined}
pub use Rattle.proto_tree.specs.declared.message.MessageItem.{MessageItem, Message', Row_of-MessageItem, end_of-MessageItem, more_of-MessageItem, Row_of-Message, end_of-Message, more_of-Message, items-the_row-MessageItem, items-the_row-Message, items_shown-the_row-MessageItem-0, items_hidden-the_row-Message-1}
