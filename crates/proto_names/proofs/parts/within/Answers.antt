use Rattle.proto_names.proofs.Common.{flat_map-append, ◌≡◌, ◌++◌, ap, arith, append_assoc, append-nil, length, length-append, None, Some, map_push, all_of}
use Rattle.proto_names.proofs.Built.{all_next, collected_next, few_next}
use Rattle.proto_names.proofs.parts.within.Goals as goal

pub returns-in_default-clause-all : goal.returns-in_default-clause-all
returns-in_default-clause-all c =
    let (p, stands, many) = collected_next c.args.limit c.args.parts.now c.args.outs.items _ c.loop-out.all.items None
    c.requires.outs (rw (c.in-Some.ensures.steps.0, c.in_default.is) at c.loop-out.invariant.outs) in
    omega (arith, many, few_next c.args.parts.now _ p stands c.requires.placed)

pub returns-then-len-limit-clause-all : goal.returns-then-len-limit-clause-all
returns-then-len-limit-clause-all c =
    let (p, stands, part) = collected_next c.args.limit c.args.parts.now c.args.outs.items _ c.loop-out.all.items
    (Some c.in-Some-out.entries) c.requires.outs
    (rw (c.in-Some.ensures.steps.0, c.in-Some-out.is) at c.loop-out.invariant.outs) in
    let few = few_next c.args.parts.now _ p stands c.requires.placed in
    let so_far = ap length c.loop-out.invariant.all in
    omega (arith, few, so_far, ap length part.0, c.if-len-limit.true, c.len-len.ensures, c.loop-out.invariant.count)

pub loop-out-preserved : goal.loop-out-preserved
loop-out-preserved c =
    let all = c.loop-out.all.items in
    let os = c.in-Some-out.entries in
    let whole = rw (c.in-Some.ensures.steps.0, c.in-Some-out.is) at c.loop-out.invariant.outs in
    let (p, stands, part) = collected_next c.args.limit c.args.parts.now c.args.outs.items _ all (Some os)
    c.requires.outs whole in
    let put = c.in_ok-push.ensures.items in
    let more : all_of c.push.new.self.items ≡ all_of all ++ os =
    grind (arith, append-nil, flat_map-append, put) in
    record {
      outs = rw (put, map_push, append_assoc) whole;
      all = grind (arith, more, all_next c.args.parts.now _ p stands c.requires.placed, part.0);
      count = omega (arith, simp length-append at (ap length more), c.len-len.ensures, c.loop-out.invariant.count);
      within = omega (arith, c.if-len-limit.false, c.loop-out.invariant.within);
    }
