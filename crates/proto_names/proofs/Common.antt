-- What many proofs of this crate cite, passed on from one place.
pub use Rattle.std.proofs.Common.{◌≤◌, ◌≡◌, ◌≢◌, ℕ, ◌+◌, ◌<◌, List, [], ◌∷◌, length, refl, arith, cond, ◌==◌, All, Contains, IsPermutation, Option, None, Some, slice_get, swap, ◌++◌, map, take, drop, get_or, append_assoc, length-append, ◌⊎◌, ap, Bool, ◌-◌, false, IsSomeAnd, MatchOption, inl, inr, Ordering, Less, Equal, Greater, ◌↔◌, IsTrue, take_all, nat_cmp, is_eq, is_lt, ◌∙◌, sym, suc, true, IsSorted, ◌*◌, lit<, replicate, zero, not, filter, flat_map, add-one, length-drop, IsUtf8, rules, fold, subst, string_bytes, ap₂, append-nil, length-take-le, ◌/◌, div-le_self, true≢false, ◌%◌}
pub use Rattle.std.proofs.Math.Seq.{drop-append_seam, take-add, take-append_seam, get_or-append_right, split_at, take-append-add, take-length}
pub use Rattle.std.proofs.lemmas.Bool.{cases_eq, cases_lt, cases_order, false≢true}
pub use Rattle.std.proofs.lemmas.Bool.Decides.{nat_tests}
pub use Rattle.std.proofs.lemmas.Grind.{common_steps, flat_map-append}
pub use Rattle.std.proofs.lemmas.List.{length-map, take-append-le, take_more, take-append-drop, get_or-map, map_push, get_or-drop, get_or-take, get_or_default, length-take, get_or-replicate, length-replicate, get_or_at, drop-append-le, drop_at, map_more, drop-map, take_rest, take-map, get_or_append_left, get_or_push, length_push}
pub use Rattle.std.proofs.lemmas.List.Elements.{All-append, All-contains, All-map, All-nil, All-push, Contains-push_cases, All-filter, filter_passes, Contains-get_or, All-head, All-tail, Contains-append_left, Contains-push, filter_more, All-drop, All-take}
pub use Rattle.std.proofs.lemmas.List.MinMax.{ranks_by}
pub use Rattle.std.proofs.lemmas.List.Sorted.{Contains-permutation, IsPermutation-keeps, IsPermutation-sym, sorted_far, searchable_from_sorted, All-permutation, IsPermutation-append, IsPermutation-filter_both, IsPermutation-refl, IsPermutation-trans, IsPartitionPoint-from_clause, IsPermutation-map, length_permutation}
pub use Rattle.std.proofs.lemmas.Map.Lookups.{exact_bytes, exact_unsigned}
pub use Rattle.std.proofs.lemmas.Nat.{le-div, mod_below}
pub use Rattle.std.proofs.lemmas.Option.{gets, slice_get_within, get_or_from_slice_get, slice_get-get_or, same_Some, slice_get-map, none-some, IfSome_then, slice_get_read}
pub use Rattle.std.proofs.lemmas.Str.Pattern.{strip_prefix_char, rfind_char}
pub use Rattle.std.specs.Cmp.Lexicographic.{slice_cmp, bytes_decides}
pub use Rattle.std.specs.Ordering.{ordering_index, ordering_then}
pub use Rattle.bit_matrix.specs.Bits.{Bits, has}
pub use Rattle.bit_matrix.specs.Changes.{HasInserted, columns_of, Has, IsAsLarge}
pub use Rattle.proto_desc.specs.DeclaredNames.{declared_by, scoped, declared_by_message}
pub use Rattle.proto_names.specs.Collected.{ArePlaced, IsCollected, files_in}
pub use Rattle.proto_names.specs.Hashes.{hash_of, hash_step, rolling_hash}
pub use Rattle.proto_names.specs.Index.{Index, Indexes, name_of, services_of}
pub use Rattle.proto_names.specs.Keys.{AreKeysAmong, AreKeysOf, IsKeyAmong, at_key, found_by, hash_in, key_cmp, part_at}
pub use Rattle.proto_names.specs.Occurrences.{Occurrence, IsTwice, declared_occurrence, package_occurrence, package_occurrences, occurrences_of, occurrences_from, occurrences, IsNoLater, IsPackage, NoneTwice}
pub use Rattle.proto_names.specs.Order.{AreInOrder, IsEarlierOf, NoLater, location_of, AreInHashOrder, name_cmp, occurrence_cmp}
pub use Rattle.proto_names.specs.Packages.{ArePackagesOf, HasPackagePut, IsPackageOf, occurrences_in, run_at}
pub use Rattle.proto_names.specs.Resolution.{is_scope, is_type, is_message, Visible, Decides, IsAbsolute, IsInnermost, Means, IsType, Resolves, ResolvesNowhere, message, enumeration, SeenBy}
pub use Rattle.proto_names.specs.Runs.{IsRun, Repeats, at, blank}
pub use Rattle.proto_names.specs.ScopeHashes.{TellsScopes, tells}
pub use Rattle.proto_names.specs.Scopes.{prefixes, IsCandidate}
pub use Rattle.proto_names.specs.Shares.{IsFirstOf, all_of, AreAllShares, AreInShares, AreSharesOf, IsEarliest, IsSortedOf, share_at, services_in, share_of, table_of, twice_of}
pub use Rattle.proto_names.specs.Steps.{HasNoType, HasOneIn, IsNoType, IsTypeAmong, fits}
pub use Rattle.proto_names.specs.declared.entry.Location.{Location}
pub use Rattle.share_work.proofs.PieceRows.{each_push, get_drop, found_in, get_take}
