use Rattle.proto_names.proofs.Common.{arith, common_steps, nat_cmp, string_bytes, slice_cmp, IsPermutation-map}
use Rattle.proto_names.proofs.Searching.{sorted_map}
use Rattle.proto_names.proofs.Tabled.{all_taken}
use Rattle.proto_names.proofs.index.taken_apart.Goals as goal

pub returns-clause-services : goal.returns-clause-services
returns-clause-services c =
    let l = c.loop-share in
    let rest = l.share-iterator.rest in
    let all = all_taken l.yielded rest.items c.args.shares.items l.invariant.whole
    (omega (arith, rest.ok.0, c.in-None.ensures.steps.0)) in
    rw (← all, ← l.invariant.services)
    (IsPermutation-map string_bytes l.services.items c.sort_unstable.new.self.items c.sort_unstable.ensures.permutation)

pub returns-clause-order : goal.returns-clause-order
returns-clause-order c = sorted_map string_bytes (slice_cmp nat_cmp) _ c.sort_unstable.ensures.sorted

pub loop-share-preserved : goal.loop-share-preserved
loop-share-preserved c = grind (arith, common_steps)
