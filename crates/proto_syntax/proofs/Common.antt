-- What many proofs of this crate cite, passed on from one place.
pub use Rattle.std.proofs.Common.{◌≡◌, ℕ, true, false, not, List, [], ◌∷◌, sym, arith, ◌||◌, ◌++◌, refl, append-nil, zero, suc, length, ap, append_assoc, ◌+◌, Bool, ◌&&◌, subst, ◌-◌, ◌≤◌, ◌<◌, Option, None, Some, cond, take, ◌∙◌, length-append, slice_get, map, bytes_eq, codes, ◌==◌, ◌⊎◌, inl, inr, drop, option_map, All, Result, Ok, Err, MatchResult, IsErrAnd, IfErr, ◌*◌}
pub use Rattle.std.proofs.lemmas.Grind.{common_steps}
pub use Rattle.std.proofs.lemmas.List.{length-map, take-append-drop, take-take}
pub use Rattle.std.proofs.lemmas.Option.{slice_get_cases, slice_get_within, slice_get-map, gets}
pub use Rattle.std.proofs.lemmas.Slice.Eq.{bytes_eq-Decides}
pub use Rattle.proto_syntax.specs.Fault.{IsTreeOf, IsFaultAt, token_before, IsKindOf, at_end, too_deep, other, kind_of}
pub use Rattle.proto_syntax.specs.Gives.{spellings, kind_here, kind_at, Fails, TellsFault, Gives}
pub use Rattle.proto_syntax.specs.Grammar.{Class, among, fits, Grammar, Tree, flatten, IsTree, one, nothing, both, first, second, none, more, IsFront, empty, token, within, past, of_first, of_second, items, One, Nothing, ◌⨾◌, ◌∣◌, Many, Beyond, Pair, Left, Right, OneOf, Empty, Leaf}
pub use Rattle.proto_syntax.specs.Language.{symbol, enum, message_item, statement, file, scalar_words, statement_words, list_of, range_of, rpc_item, service_item, enum_item, oneof_item, message}
pub use Rattle.proto_syntax.specs.Reading.{none_among, all_among, apart, begins, can_be_empty, fits_any, next_fits, apart_from_all, all_apart, Outcome, Read, Stops, after, mapped, read_many, read, ended, goes_on, decides}
pub use Rattle.proto_syntax.specs.Trees.{name_tree, symbol_tree, row, part_tree, declarator_tree, option_tree, enum_tree, oneof_tree, number_tree, reserved_tree, map_tree, field_head_tree, field_tree, unlabelled_tree, field_statement_tree, block_tree, item_step, message_step, message_item_tree, message_tree, before, leaf, string_tree, optional, next_tree, separated_tree, str_tree, full_tree, dotted_tree, named_tree, word_of_scalar, word_of_key, type_tree, signed_tree, sign_tree, constant_number_tree, constant_tree, setting_tree, options_tree, streamed_tree, rpc_type_tree, rpc_item_tree, rpc_block_tree, rpc_body_tree, rpc_tree, service_item_tree, service_tree, bound_tree, range_end_tree, range_tree, reserved_items_tree, value_tree, enum_item_tree, member_tree, oneof_item_tree, map_type_tree, label_tree, package_tree, import_tree, syntax_tree, statement_tree, file_tree}
pub use Rattle.proto_tokens.specs.ProgramTokens.{spelled, tokens_of}
pub use Rattle.proto_tokens.specs.Token.{Lexeme, Spelled, identifier}
pub use Rattle.proto_tokens.specs.declared.token.Token.{Token}
pub use Rattle.proto_tree.specs.declared.field.Field.{Field}
