use Rattle.proto_names.proofs.Common.{Contains-permutation, IsPermutation-sym}
use Rattle.std.proofs.lemmas.List.Filters.{dedup_is}
use Rattle.std.proofs.lemmas.List.Kept.{Contains-dedup, Contains-from_dedup, IsStrictlySortedBy-dedup}
use Rattle.proto_names.proofs.Repeating.{all_precede, file_spot_equiv, file_spot_ties, file_spot_total, one_file_spot}
use Rattle.proto_names.proofs.repeated.sort_file_spots.Goals as goal

pub returns-clause-same : goal.returns-clause-same
returns-clause-same c = λ x.
    let moved = c.sort_unstable.ensures.permutation in
    rw (dedup_is _ _ _ c.dedup.ensures.filtered) (
      λ h. Contains-permutation _ _ x (IsPermutation-sym _ _ moved) (Contains-from_dedup _ _ x h),
      λ h. Contains-dedup file_spot_equiv one_file_spot _ x (Contains-permutation _ _ x moved h),
    )

pub returns-clause-order : goal.returns-clause-order
returns-clause-order c = rw (dedup_is _ _ _ c.dedup.ensures.filtered)
    (all_precede _ (IsStrictlySortedBy-dedup file_spot_total file_spot_ties _ c.sort_unstable.ensures.sorted))
