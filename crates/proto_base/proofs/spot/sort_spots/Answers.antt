use Rattle.std.proofs.lemmas.List.Filters.{dedup_is}
use Rattle.std.proofs.lemmas.List.Kept.{Contains-dedup, Contains-from_dedup, IsStrictlySortedBy-dedup}
use Rattle.std.proofs.lemmas.List.Sorted.{Contains-permutation, IsPermutation-sym}
use Rattle.proto_base.proofs.SpotOrder.{all_precede, one_spot_of, spot_equiv, spot_ties, spot_total}
use Rattle.proto_base.proofs.spot.sort_spots.Goals as goal

pub returns-clause-same : goal.returns-clause-same
returns-clause-same c = λ x.
    let moved = c.sort_unstable.ensures.permutation in
    rw (dedup_is _ _ _ c.dedup.ensures.filtered) (
      λ h. Contains-permutation _ _ x (IsPermutation-sym _ _ moved) (Contains-from_dedup _ _ x h),
      λ h. Contains-dedup spot_equiv one_spot_of _ x (Contains-permutation _ _ x moved h),
    )

pub returns-clause-order : goal.returns-clause-order
returns-clause-order c = rw (dedup_is _ _ _ c.dedup.ensures.filtered)
    (all_precede _ (IsStrictlySortedBy-dedup spot_total spot_ties _ c.sort_unstable.ensures.sorted))
