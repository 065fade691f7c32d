use Rattle.proto_names.proofs.Common.{◌≡◌, is_lt, rules, ranks_by, IsPermutation-trans, key_cmp}
use Rattle.std.proofs.lemmas.Fn.{always_returns_same}
use Rattle.std.proofs.lemmas.Result.{on_ok_weaker}
use Rattle.proto_names.proofs.Searching.{key_total}
use Rattle.proto_names.proofs.keys.sort_keys.Goals as goal

pub returns-clause-all : goal.returns-clause-all
returns-clause-all c = IsPermutation-trans c.args.keys.now c.sort_unstable.new.self c.sort_by.new.self
    c.sort_unstable.ensures.permutation c.sort_by.ensures.permutation

pub returns-clause-order : goal.returns-clause-order
returns-clause-order c =
    let parts = c.args.collected.now in
    on_ok_weaker c.sort_by.result
    (λ sorted. sorted (λ a b. is_lt (key_cmp parts a b)) (ranks_by (key_total parts) (λ key. key))
    (always_returns_same _ (λ a r. is_lt r ≡ is_lt (key_cmp parts a.0.now a.1.0.now)) _ (λ a r f called. search rules)))
    c.sort_by.ensures.sorted
