use Rattle.proto_names.proofs.Common.{◌≡◌, ◌<◌, length, take, inl, refl, arith, lit<, common_steps, rfind_char}
use Rattle.proto_names.proofs.Unique.{candidates_at_dot, candidate_before_dot, candidates_no_dot}
use Rattle.proto_names.proofs.scope.parent.Goals as goal

pub returns-in-Some : goal.returns-in-Some
returns-in-Some c =
    let s = c.args.scope.now in
    let k = c.in-Some.at in
    let found = rw c.in-Some.is at (rfind_char 46 s c.rfind.result c.rfind.ensures.cases (lit< tt)) in
    let prefix : c.range.result.now ≡ take k s = grind (arith, common_steps) in
    rw prefix (record {
      candidate = candidate_before_dot s k found.0 found.1;
      shorter = (let below : k < length s = found.0 in grind (arith, common_steps));
      next = λ d h. candidates_at_dot s d k found.0 found.2 h;
    })

pub returns-in-None : goal.returns-in-None
returns-in-None c =
    let found = rw c.in-None.is at (rfind_char 46 c.args.scope.now c.rfind.result c.rfind.ensures.cases (lit< tt)) in
    record {
      candidate = inl refl;
      shorter = c.requires;
      next = λ d h. candidates_no_dot c.args.scope.now d found h;
    }
