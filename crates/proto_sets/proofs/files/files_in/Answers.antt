use Rattle.std.proofs.Common.{◌≤◌, length, map, arith}
use Rattle.std.proofs.lemmas.List.{length-map}
use Rattle.proto_base.specs.Limits.{limit_of}
use Rattle.proto_base.specs.declared.limits.Limit.TheVariants as limit
use Rattle.proto_sets.specs.SetFaults.{IsLeastFault}
use Rattle.proto_sets.specs.SetSteps.{IsFirstNameless}
use Rattle.proto_sets.proofs.LeastFault.{err_tells}
use Rattle.proto_sets.proofs.Naming.{text_by}
use Rattle.proto_sets.proofs.SetLeast.{nameless_least}
use Rattle.proto_sets.proofs.files.files_in.Goals as goal

pub returns-clause-first : goal.returns-clause-first
returns-clause-first c =
    let limits = c.args.limits.now in
    let set = c.args.set.now in
    let texts = map text_by c.in_ok-texts.texts.items in
    let few : length texts ≤ limit_of limits limit.Files =
    omega (arith, c.in_ok-texts.ensures.few, length-map c.in_ok-texts.texts.items text_by) in
    err_tells (IsFirstNameless texts) (IsLeastFault limits set) c.files_at.result
    (λ x. nameless_least limits set x c.in_ok-texts.ensures.short c.in_ok-texts.ensures.texts few)
    (rw c.deref.ensures.value at c.files_at.ensures.first)
