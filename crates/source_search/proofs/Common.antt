-- What many proofs of this crate cite, passed on from one place.
pub use Rattle.std.proofs.Common.{subst, ℕ, All, List, ◌++◌, take, drop, take-append-drop, arith, ◌≡◌, ◌∙◌, sym, ap, refl, [], ◌∷◌, map, Bool, true, false, ◌⊎◌, inl, inr, Option, Some, None, Vec, Global, String, string_bytes, if◌then◌else◌, Contains, option_map, append-nil, append_assoc, length, ◌↔◌, IfSome, flat_map, take_all, filter, ◌+◌, ◌<◌, get_or, Ordering, Less, Equal, Greater, nat_cmp, is_lt, true≢false, rules, ◌-◌, length-drop}
pub use Rattle.std.proofs.lemmas.Cmp.{nat_list_eq_equiv, nat_list_cmp_total}
pub use Rattle.std.proofs.lemmas.Grind.{common_steps, flat_map-append}
pub use Rattle.std.proofs.lemmas.List.{map-append, drop-map, length-map, take-append-le, get_or-map, map_more, take_more}
pub use Rattle.std.proofs.lemmas.List.Elements.{All-append, All-contains, Contains-append_left, Contains-append_right, All-map, All-push, All-weaker, Contains-push, All-cons, All-drop, All-head, All-nil, All-tail, All-contains_itself}
pub use Rattle.std.proofs.lemmas.List.Sorted.{Contains-permutation, IsPermutation-map, IsPermutation-sym, ranks_by}
pub use Rattle.std.specs.BTreeSet.{BTreeSet, contains_text}
pub use Rattle.proto_base.specs.declared.limits.Limits.{Limits}
pub use Rattle.share_work.proofs.Sums.{all_of, of_map, in_map, in_filter, of_filter}
pub use Rattle.source_folder.specs.Folder.{NamedBytes, name_of, named_bytes, names_of}
pub use Rattle.source_folder.specs.declared.folder.NamedText.{NamedText}
pub use Rattle.source_search.specs.Searching.{AsksFor, IsSearched, IsWorth, found_under, is_asked, sources_of, IsClosed, IsSearch, SourceImports, texts_in}
pub use Rattle.source_search.specs.Wanted.{IsWanted, is_imported, name_in, AreWanted, is_given}
