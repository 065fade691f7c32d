use Rattle.std.proofs.Common.{nat_cmp}
use Rattle.std.proofs.lemmas.List.Sorted.{IsPermutation-map}
use Rattle.std.specs.Cmp.Lexicographic.{slice_cmp}
use Rattle.proto_names.proofs.Ordered.{first_not}
use Rattle.proto_sets.specs.SetSteps.{file_of}
use Rattle.proto_sets.proofs.Sorting.{sorted_names}
use Rattle.proto_sets.proofs.files.sorted.Goals as goal

pub returns : goal.returns
returns c = record {
  all = IsPermutation-map file_of _ _ c.in_ok-sort.ensures.permutation;
  rises = sorted_names file_of _ c.sort.new.self.items
      (λ a b. first_not (slice_cmp nat_cmp a.name.now b.name.now) (slice_cmp nat_cmp a.bytes.now b.bytes.now))
      c.in_ok-sort.ensures.sorted;
}
