use Rattle.proto_names.proofs.Common.{ap, ℕ, ◌<◌, length, rules, nat_cmp, is_lt, ordering_then, IsPartitionPoint-from_clause, scoped, at_key, found_by, hash_in, name_of, Occurrence, name_cmp}
use Rattle.proto_names.proofs.Searching.{less_point, name_order, parted_keys, parted_less, point_found}
use Rattle.proto_names.specs.Order.{end_cmp}
use Rattle.proto_names.proofs.halving.count_before.Goals as goal

pub returns-clause-point : goal.returns-clause-point
returns-clause-point c =
    let es = c.names.inside.collected.now in
    let keys = c.names.inside.keys.now in
    let os = found_by es keys in
    let n = c.partition_point.result in
    let target = scoped c.args.scope.now c.args.name.now in
    let hash = c.args.hash in
    let p = λ (key : ℕ). is_lt
    (ordering_then (nat_cmp (hash_in key) hash) (end_cmp (at_key es key).name target)) in
    let q = λ (o : Occurrence). is_lt (name_cmp (name_of o) target) in
    let same = λ (k d : ℕ) (h : k < length keys). ap is_lt
    (name_order es keys target hash k d h c.names.invariant c.requires.hash) in
    let up = rw (← c.names.view_is) at c.requires.order in
    let parted = parted_keys es keys p q same (parted_less os target up) in
    let point = IsPartitionPoint-from_clause p keys n c.partition_point.ensures.partitioned parted
    (λ a r f called. search rules) in
    rw (← c.names.view_is)
    (less_point os target n (point_found es keys p q same n c.partition_point.ensures.bound point))
