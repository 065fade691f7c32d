-- What many proofs of this crate cite, passed on from one place.
pub use Rattle.std.proofs.Common.{◌≡◌, ℕ, ◌+◌, ◌<◌, ◌≤◌, List, [], length, get_or, refl, arith, inl, inr, ◌⊎◌, Bool, Contains, ◌↔◌, ◌∷◌, ◌++◌, lit<, ◌∙◌, sym, subst, rules, zero, suc, ap, ne_eqb, eqb, set, length-set, length-append, replicate, All, ◌≢◌, map, get_or-set_same, get_or-set_other, true, IsPermutation, append_assoc, false, take, drop, Vec, Global, Result, OnErr, append-nil, ◌-◌}
pub use Rattle.std.proofs.lemmas.Bool.{cases_lt, cases_eq, cases_order, true≢false, eqb-true, false_from_ne_true}
pub use Rattle.std.proofs.lemmas.Grind.{common_steps}
pub use Rattle.std.proofs.lemmas.List.{get_or-map, length-map, map-set, map-append, take_all, drop-map, take-map, get_or_default}
pub use Rattle.std.proofs.lemmas.List.Elements.{Contains-get_or, All-nil, All-cons, All-contains, recursion_from_All, Contains-append_cases, Contains-append_right, Contains-push, Contains-push_cases, Contains-append_left}
pub use Rattle.std.proofs.lemmas.Map.Keys.{IsDistinct-cons, IsDistinct-push, IsDistinct-from_apart, IsDistinct-IsPermutation, IsStrictlyIncreasing-from_distinct, IsStrictlyIncreasing-dedup}
pub use Rattle.std.specs.List.{IsDistinct, AllByRecursion, list_any}
pub use Rattle.std.specs.List.Sorted.{IsStrictlyIncreasing}
pub use Rattle.digraph.specs.Edges.{Graph, Edge, successors, IsFalling, IsWithin, graph_of}
pub use Rattle.digraph.specs.Leads.{Leads, here, through}
pub use Rattle.digraph.specs.Marks.{AreMarked, IsFrontOf, NoneMarked, IsMarked, Among}
pub use Rattle.digraph.specs.Ranks.{rank_in, IsBefore, IsRanked, IsRankOrder}
pub use Rattle.digraph.specs.Reaches.{IsReach, AreReaches, InLists, IsUnion, AreClosed, HasNoCycle}
pub use Rattle.digraph.specs.Renumbered.{node_at, IsRenumbered, HasPosition}
pub use Rattle.digraph.specs.Rounds.{IsPassed, ArePassed, Stops, AllMarked, GoesInto}
