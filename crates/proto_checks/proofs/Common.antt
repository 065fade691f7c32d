-- What many proofs of this crate cite, passed on from one place.
pub use Rattle.std.proofs.Common.{◌≡◌, refl, ℕ, zero, suc, leb, ◌+◌, ◌-◌, ◌%◌, ◌<◌, inl, inr, ◌⊎◌, List, [], ◌∷◌, ◌++◌, length, get_or, take, set, map, arith, Bool, true, false, Option, Some, None, ◌↔◌, ◌&&◌, nat_lt, flat_map, ◌≤◌, drop, drop-cons, ap, add-one, append_assoc, Contains, max, ◌∙◌, sym, rules, All, bytes_eq, find, option_map, unwrap_or, take_all, tests, nat_cmp, is_eq}
pub use Rattle.std.proofs.lemmas.Bool.{both_ways, cases_lt, false≢true, and_from, and_parts, not-false, not-true}
pub use Rattle.std.proofs.lemmas.Bool.Decides.{nat_tests, Decides-eqb}
pub use Rattle.std.proofs.lemmas.Grind.{common_steps}
pub use Rattle.std.proofs.lemmas.Iterator.Search.{find_from_yields_List, any_from_yields_List}
pub use Rattle.std.proofs.lemmas.List.{get_or_default, get_or-take, length-take-le, get_or-append-add, take_more_set, drop-set-lt, append-nil, take_at, map-append, length-map, length-set, take-map, take_more, map-id}
pub use Rattle.std.proofs.lemmas.List.Elements.{Contains-append_left, Contains-get_or, Contains-push, Contains-push_cases, All-contains}
pub use Rattle.std.proofs.lemmas.List.Folds.{Any-from_list_any, list_any-from_Any, flat_map-map, find_at}
pub use Rattle.std.proofs.lemmas.List.Sorted.{Contains-permutation, IsPermutation-sym, IsPartitionedBy-leb, IsNonDecreasingBy-from_sort_by_key, answers_always}
pub use Rattle.std.proofs.lemmas.Result.{on_ok_weaker}
pub use Rattle.std.specs.List.{AllAdjacentBelow, list_any, position_or_len}
pub use Rattle.proto_base.proofs.Among.{each_as, each_cons, each_append, each_flat, each_map, each_nil, each_single, each_union, later_map, later_short, taken}
pub use Rattle.proto_base.proofs.Gains.{clashes_all, clashes_hit, clashes_skip, clashes_start, ClashesTo, gains_all, gains_as, gains_each, gains_hit, gains_last, gains_miss, gains_next, gains_pass, gains_none, gains_one, gains_same, gains_skip, gains_start, gains_union, gains_where, GainsTo, Passed, passed_hit, passed_skip}
pub use Rattle.proto_base.proofs.Sets.{HasEarlier, cond_or, cond_right, exact_number, exact_text, item_at, one_at, text_cmp}
pub use Rattle.proto_base.specs.Least.{spot}
pub use Rattle.proto_base.specs.Sets.{◌∪◌, StandsAt, Each, Later, Where, Gains}
pub use Rattle.proto_base.specs.declared.spot.Spot.{Spot}
pub use Rattle.proto_checks.specs.Checks.{PackageTwice, MessageNames, names_step, names_of, IsTooLong, MessageNamesBreak, PackageTooLong, IsPartTooLong}
pub use Rattle.proto_checks.specs.Elements.{bodies_of, bodies_row, bodies, BodyBreaks, EnumBreaks, OneofBreaks}
pub use Rattle.proto_checks.specs.Gathered.{bounds_of, field_numbers, field_number, value_numbers, reserved_name}
pub use Rattle.proto_checks.specs.Judged.{is_known_by, judged, IsFaultOf, JudgedTwice, judged_name}
pub use Rattle.proto_checks.specs.Marks.{Marked, NumberTwice, ReservedOverlap, Share, IsOutside, IsBackwards, IsReserved, IsReservedName}
pub use Rattle.proto_checks.specs.Options.{name_place, SettingBreaks, SettingsBreak, is_repeated, is_packed_type, FieldOptionsBreak, optioned_in_oneof}
pub use Rattle.proto_checks.specs.Parts.{is_oneof_member, is_value, IsWrongOnField, part_name, name_mark}
pub use Rattle.proto_checks.specs.declared.covers.Interval.{Interval}
pub use Rattle.proto_checks.specs.declared.marks.MarkedNumber.{MarkedNumber}
pub use Rattle.proto_checks.specs.declared.marks.MarkedRange.{MarkedRange}
pub use Rattle.proto_desc.specs.DeclaredNames.{file_scope, declared_by_message, scoped, Declared}
pub use Rattle.proto_options.specs.Statements.{oneof_field, enum_value, file_package, names_in, service_rpc}
pub use Rattle.proto_tree.specs.Items.{items_left}
pub use Rattle.proto_tree.specs.Lists.{separated}
