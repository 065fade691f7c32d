use Rattle.proto_compile.proofs.Common.{slice_cmp, nat_cmp, text_of}
use Rattle.proto_compile.specs.Sources.{name_of}
use Rattle.proto_names.proofs.Ordered.{first_not}
use Rattle.proto_compile.proofs.Sorting.{sorted_names}
use Rattle.proto_compile.proofs.pass.list.sorted.Goals as goal

pub returns : goal.returns
returns c = record {
  all = rw (← c.in_ok-files.ensures.items) c.in_ok-sort.ensures.permutation;
  rises = sorted_names _ c.sort.new.self.items
      (λ a b. first_not (slice_cmp nat_cmp (name_of a) (name_of b)) (slice_cmp nat_cmp (text_of a) (text_of b)))
      c.in_ok-sort.ensures.sorted;
}
