use Rattle.proto_names.proofs.Common.{refl, ℕ, rules, is_eq, IsPartitionPoint-from_clause, scoped, at_key, found_by, name_of, Occurrence}
use Rattle.proto_names.proofs.Searching.{equal_point, parted_equal, parted_keys, point_found}
use Rattle.proto_names.specs.Order.{end_cmp}
use Rattle.proto_names.proofs.halving.count_named.Goals as goal

pub returns-clause-point : goal.returns-clause-point
returns-clause-point c =
    let es = c.names.inside.collected.now in
    let keys = c.names.inside.keys.now in
    let os = found_by es keys in
    let n = c.partition_point.result in
    let target = scoped c.args.scope.now c.args.name.now in
    let p = λ (key : ℕ). is_eq (end_cmp (at_key es key).name target) in
    let q = λ (o : Occurrence). is_eq (end_cmp (name_of o) target) in
    let up = rw (← c.names.view_is) at c.requires.order in
    let behind = rw (← c.names.view_is) at c.requires.behind in
    let parted = parted_keys es keys p q (λ k d h. refl) (parted_equal os target up behind) in
    let point = IsPartitionPoint-from_clause p keys n c.partition_point.ensures.partitioned parted
    (λ a r f called. search rules) in
    rw (← c.names.view_is)
    (equal_point os target n (point_found es keys p q (λ k d h. refl) n c.partition_point.ensures.bound point))
