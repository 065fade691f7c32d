use Rattle.source_search.proofs.Common.{◌≡◌, rules, nat_cmp, is_lt, nat_list_cmp_total, ranks_by, name_of}
use Rattle.std.specs.Cmp.Lexicographic.{slice_cmp}
use Rattle.std.proofs.lemmas.Fn.{always_returns_same}
use Rattle.source_search.proofs.order.sort_by_name.Goals as goal

pub returns-clause-order : goal.returns-clause-order
returns-clause-order c =
    c.sort_unstable_by.ensures.sorted (λ a b. is_lt (slice_cmp nat_cmp (name_of a) (name_of b)))
    (ranks_by nat_list_cmp_total name_of)
    (always_returns_same _ (λ a r. is_lt r ≡ is_lt (slice_cmp nat_cmp (name_of a.0.now) (name_of a.1.0.now))) _
    (λ a r f called. search rules))
