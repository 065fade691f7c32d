-- What many proofs of this crate cite, passed on from one place.
pub use Rattle.std.proofs.Common.{◌≡◌, ap, refl, Some, ℕ, zero, suc, ◌+◌, ◌<◌, List, [], ◌∷◌, ◌++◌, length, take, get_or, map, arith, rules, add-zero, Result, Ok, slice_get, length-take-le, ◌≢◌, ◌≤◌, ◌⊎◌, ◌↔◌, inl, inr, Bool, true, cond, ◌==◌, ◌&&◌, ltb, sym, ◌∙◌, subst, min, AllPairs, Contains, sum_by, count_by, eq-eqb, ne_eqb, ◌-◌, ◌^◌, ⊎_elim, set, slice_index, get_or-set_same, Option, None, lt-ltb, drop, append_assoc, add-one, take_all, ◌*◌, ◌/◌, ◌%◌, IfOk, IsOkAnd, OnOk, length-append, slice_range, take-add, drop_of_length-le, mul-le-mul_right, zero-mul, filter, IsPermutation, eqb-true, length-set, get_or-set_other, append-nil, false, eqb, All, flat_map, div-add-mod', below_more}
pub use Rattle.std.proofs.lemmas.Bool.{cases_Bool, cases_lt, cases_eq}
pub use Rattle.std.proofs.lemmas.Grind.{common_steps, div_ceil_times}
pub use Rattle.std.proofs.lemmas.List.{get_or_default, length-map, take_more, set-get_or, map-set, map-append, drop_all}
pub use Rattle.std.proofs.lemmas.List.Elements.{Contains-append_left, Contains-append_right, Contains-append_cases, Contains-get_or, All-contains, All-contains_itself, All-filter, filter_passes}
pub use Rattle.std.proofs.lemmas.List.Sums.{sum_by-cons, sum_by-append, sum_by_push}
pub use Rattle.std.proofs.lemmas.Option.{slice_get-map, slice_get_read, slice_get_cases, slice_get_within}
pub use Rattle.atomic_table.proofs.Lists.{at_map, set_again, at_set, at_snoc}
pub use Rattle.share_work.specs.Marks.{MarkSeatValue, MarkTableValue, at_each, marked_posts, owed_by, owed_of, mark_left, mark_right, mark_both}
pub use Rattle.share_work.specs.Posts.{NONE, least_at}
pub use Rattle.share_work.specs.Rule.{FallsAt, IsLegalAt, IsLegal, all_calls, IsKept, all_told, IsPosted}
pub use Rattle.share_work.specs.Shares.{GivesItems, AddsSome, AddsInRow, SeatGains, SeatHas, SeatsGain, SeatsHave, TakesAll}
pub use Rattle.share_work.specs.Steps.{spent, make_debt, next_debt, with_root, with_paid, mark_spent, debt_at, with_calls}
pub use Rattle.share_work.specs.Views.{call, posts_of, known, with_call, SeatValue, TableValue, finds_of, pairs_of, with_told, left_of, right_of, both_of}
pub use Rattle.share_work.specs.WorkerRows.{GivesUpTo, GivesPiece, GivesRow, GivesRows}
pub use Rattle.share_work.specs.declared.views.Call.{Call}
pub use lib.ListN.{get_elem?}
pub use mathlib.Core.Option.{some, some-injective, some-ne-none}
