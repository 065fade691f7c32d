use Rattle.reflect_core.proofs.Common.{◌<◌, length, arith, ap, ◌==◌, count_by-le-length, length-filter, Linked, count_of, reach_of}
use Rattle.std.specs.Set.{is_member}
use Rattle.reflect_core.proofs.file_reach.FileReach.new.Goals as goal

pub invariant_of-result : goal.invariant_of-result
invariant_of-result c =
    let compiled = c.args.compiled.now in let links = c.links-links.result.now in
    let coherent = c.is_sound.ensures.coherent in
    let counted = ap (λ (l : Linked). count_of l) c.links-links.ensures in
    let few : count_of links < 18446744073709551615 =
    omega (arith, coherent.linked, coherent.few, counted, compiled.limits.files_bound) in
    let whole = c.reaches_are_whole.ensures in
    record {
      whole = ∣ whole ∣₁;
      short = λ a h.
          let p = is_member ◌==◌ (reach_of links a) in
          omega (
            arith,
            ap length (whole.part a h),
            length-filter p links.set_order,
            count_by-le-length p links.set_order,
            whole.size,
            few,
          );
    }
