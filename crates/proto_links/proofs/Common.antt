-- What many proofs of this crate cite, passed on from one place.
pub use Rattle.std.proofs.Common.{length-append, ◌≡◌, ◌∙◌, sym, ℕ, ◌+◌, ◌<◌, List, [], ◌∷◌, ◌++◌, length, map, take, get_or, subst, arith, inl, inr, ◌⊎◌, Vec, Global, Bool, true, false, Contains, ◌↔◌, IsTrue, Option, Some, None, ◌≢◌, ◌-◌, Ordering, Less, Equal, nat_cmp, ◌≤◌, Greater, IsSortedByKey, refl, rules, zero-add, ◌==◌, eqb-true, zero, suc, ap, filter, take_all}
pub use Rattle.std.proofs.lemmas.Bool.{cases_lt, cases_eq, cases_order, cond_both, false≢true}
pub use Rattle.std.proofs.lemmas.Grind.{common_steps}
pub use Rattle.std.proofs.lemmas.List.{get_or-map, length-map, get_or_default}
pub use Rattle.std.proofs.lemmas.List.Elements.{Contains-push, Contains-push_cases, Contains-append_left, Contains-get_or, All-contains, All-contains_itself, All-filter, filter_passes}
pub use Rattle.std.specs.Cmp.Lexicographic.{slice_cmp}
pub use Rattle.digraph.proofs.Rows.{below_more, joined_end, joined_more, joined_none, edge_push, push_iff, leads_turned, far, leads_map, leads_last, joined_two, length_graph, leads_le, edge_below, leads_trans, once, few, many, graph_push, joined_if}
pub use Rattle.digraph.specs.Edges.{Graph, Edge, graph_of, IsFalling, IsWithin}
pub use Rattle.digraph.specs.Leads.{Leads, here, through}
pub use Rattle.proto_base.specs.Least.{IsLeast, spot}
pub use Rattle.proto_base.specs.declared.kind.Kind.{Kind}
pub use Rattle.proto_desc.specs.declared.file.FileDesc.{FileDesc}
pub use Rattle.proto_links.specs.Graphs.{HasMissing, IsGraph, IsWrongAt, IsWrongIn, IsPublicGraph}
pub use Rattle.proto_links.specs.Imports.{imports_of, imports_at, IsNamed, Targets, PublicTargets, Imports, ImportsPublicly, name_of, Reaches, IsWrong, missing, cyclic, IsBad, name_at, NoneBad}
pub use Rattle.proto_links.specs.Linked.{reach_of, sees, AreLinked, IsReach, Linked, AreRanks, IsBefore, IsInSetOrder, rank_of, count_of}
