use Rattle.std.proofs.lemmas.Result.{IfOk-weaker}
use Rattle.proto_names.proofs.Repeating.{twice_either}
use Rattle.proto_names.proofs.repeated.repeated_among.Goals as goal

pub returns : goal.returns
returns c = IfOk-weaker c.all_twice.result _ _
    (λ spots found x.
    (let either = twice_either c.args.entries _ c.in_ok-sorted.ensures.all x in
    let same = rw c.names.ensures at (found x) in
    (λ h. either.0 (same.0 h), λ h. same.1 (either.1 h))))
    c.all_twice.ensures
