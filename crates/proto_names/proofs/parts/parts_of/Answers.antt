use Rattle.proto_names.proofs.Common.{◌≡◌, ◌∙◌, ◌+◌, ◌-◌, ◌/◌, ap, arith, drop, length, sym, take, take_all, div-le_self, length-take-le, common_steps}
use Rattle.proto_names.proofs.Built.{files_more, placed_more}
use Rattle.proto_names.proofs.parts.parts_of.Goals as goal

pub slice_bounds-push-end : goal.slice_bounds-push-end
slice_bounds-push-end c =
    let rest = length c.args.files.now - c.loop-k.first in
    omega (arith, div-le_self rest (c.args.count - c.loop-k.k), c.loop-k.invariant.within)

pub loop-k-preserved : goal.loop-k-preserved
loop-k-preserved c =
    let first = c.loop-k.first in
    let rest = length c.args.files.now - first in
    let parts = c.args.count - c.loop-k.k in
    let so_far = c.loop-k.invariant in
    let within = so_far.within in
    let same : first + rest / parts - first ≡ rest / parts = omega arith in
    let count = ap (λ n. take n (drop first c.args.files.now)) same in
    record {
      whole = rw c.in_ok-push.ensures.items
          (files_more _ c.loop-k.parts.items _ first (rest / parts) so_far.whole count);
      placed = rw c.in_ok-push.ensures.items
          (placed_more c.loop-k.parts.items _ so_far.placed
          (sym (ap length so_far.whole ∙ length-take-le first c.args.files.now within)));
      count = grind (arith, common_steps);
      within = omega (arith, div-le_self rest parts, within);
      all = λ last. (let one : parts ≡ 1 = omega (arith, last) in rw one (omega (arith, within)));
    }

pub returns : goal.returns
returns c =
    let done : c.loop-k.k ≡ c.args.count = omega (arith, c.loop-k.auto.k-end, c.loop-k-test.false) in
    record {
      parts = record {
        all = c.loop-k.invariant.whole ∙ take_all c.loop-k.first c.args.files.now
            (omega (arith, c.loop-k.invariant.all done));
        placed = c.loop-k.invariant.placed;
      };
      count = c.loop-k.invariant.count ∙ done;
    }
