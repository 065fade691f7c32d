-- What many proofs of this crate cite, passed on from one place.
pub use Rattle.std.proofs.Common.{◌≡◌, ◌∙◌, sym, ℕ, ◌+◌, ◌<◌, List, [], ◌∷◌, length, map, refl, arith, Bool, filter, cond, Contains, ◌==◌, sum_by, eqb-true, zero-add, ◌≤◌, ap, inl, inr, subst, Result, Ok, Err, Vec, IfErr, Global, ◌≢◌, Ordering, Greater, nat_cmp, All, true, get_or, Option, Some, None, IsPermutation, add-zero, zero, suc, ◌↔◌, ◌⊎◌, take, Less, Equal, false, IsSorted, is_lt, get_or-take, length-take, ◌++◌, IfOk, IsErrAnd, MatchResult, length-append, rules, map-id, drop, append-nil, take_all, true≢false}
pub use Rattle.std.proofs.lemmas.Bool.{cases_lt, cases_order, false≢true}
pub use Rattle.std.proofs.lemmas.List.{length-map, get_or_default, get_or_past, get_or-map, map-append, take_more, drop_all}
pub use Rattle.std.proofs.lemmas.List.Elements.{filter_agree, All-contains, All-append, All-map, All-nil, Contains-append_cases, All-cons}
pub use Rattle.std.proofs.lemmas.List.Sorted.{sum_by-IsPermutation, Contains-permutation, IsPermutation-refl, IsPermutation-sym, All-permutation, length_permutation, IsPermutation-map, sorted_far}
pub use Rattle.std.proofs.lemmas.List.Sums.{sum_by-cons, count_by-le-length, length-filter, get_or-le-sum_by, sum_by_more_le}
pub use Rattle.std.proofs.lemmas.Result.{IfErr-weaker, IfOk-weaker}
pub use Rattle.std.specs.Cmp.Lexicographic.{slice_cmp}
pub use Rattle.std.specs.List.{AllZip, AllByRecursion}
pub use Rattle.proto_base.specs.Least.{AtMost, IsLeastBy, spot}
pub use Rattle.proto_base.specs.NameOrder.{NamesRise}
pub use Rattle.proto_base.specs.Sets.{StandsAt}
pub use Rattle.proto_base.specs.declared.kind.Kind.{Kind}
pub use Rattle.proto_base.specs.declared.limits.Limits.{Limits}
pub use Rattle.proto_base.specs.declared.place.Place.{Place}
pub use Rattle.proto_base.specs.declared.spot.Spot.{Spot}
pub use Rattle.proto_compile.specs.Analysed.{AreResolved, IsAnalysed, TypesBreakAt, AreTypedFrom, TypesAt, AllZipFrom}
pub use Rattle.proto_compilation.specs.Compilation.{Compilation, set_of, CompiledFile, file_bytes, file_name}
pub use Rattle.proto_compile.specs.Compiled.{IsCompiled, IsShort, IsWritten}
pub use Rattle.proto_compile.specs.Descriptions.{Describe, SourceDescribes}
pub use Rattle.proto_compile.specs.FaultSet.{Breaks, IsLeastFault, IsNoLater, SourceFault, bad_import, bad_type, fault, file_fault, long_descriptor, long_set, many_files, many_names, of_file, of_list, repeated_file_name, repeated_name, start, TellsOf, AreDescribed, IsPlaced, told_by}
pub use Rattle.proto_compile.specs.Outcomes.{IsDescribed, IsFirstFound, IsResolved, IsWrittenShort, TellsOfFile, AreTypesOf, IsTypedWhole}
pub use Rattle.proto_compile.specs.Sources.{AreByName, name_at, text_of}
pub use Rattle.proto_compilation.specs.Parts.{compilation}
pub use Rattle.proto_compile.specs.Steps.{items_of}
pub use Rattle.proto_compile.specs.declared.error.CompileError.{CompileError}
pub use Rattle.proto_compile.specs.declared.pass.filling.Untyped.{Untyped}
pub use Rattle.proto_compile.specs.declared.source.Source.{Source}
pub use Rattle.proto_desc.specs.DeclaredNames.{declared_by, full_name, file_scope, Declared, declared_by_enum, declared_by_message, declared_by_service, declared_field, declared_method, declared_oneof, declared_value, scoped}
pub use Rattle.proto_desc.specs.declared.file.FileDesc.{FileDesc}
pub use Rattle.proto_links.proofs.NameRows.{names_differ, rise_far, not_less_itself, name_is}
pub use Rattle.proto_links.specs.Linked.{AreLinked, Linked, reach_of, count_of, sees}
pub use Rattle.proto_names.specs.Index.{Index, Indexes, is_service_kind, services_of}
pub use Rattle.proto_names.specs.Occurrences.{Occurrence, occurrences, IsTwice, declared_occurrence, occurrences_from, occurrences_of, package_occurrence, package_occurrences, ContainsBoth}
pub use Rattle.share_work.proofs.Giving.{given_at, gives_each, gives_well, all_of_gives}
pub use Rattle.wire_bytes.specs.Descriptor.{file_desc_bytes}
