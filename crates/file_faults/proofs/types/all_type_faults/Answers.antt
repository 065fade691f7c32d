use Rattle.std.proofs.Common.{◌∙◌, ap, arith, length, subst, sym}
use Rattle.std.proofs.lemmas.Result.{IfOk-weaker}
use Rattle.file_faults.specs.FaultSpots.{AreAllTypeFaults, AreWithin, spots_from}
use Rattle.file_faults.proofs.Joining.{rows_within}
use Rattle.file_faults.proofs.Typing.{all_types}
use Rattle.file_faults.proofs.types.all_type_faults.Goals as goal

pub returns-clause-faults : goal.returns-clause-faults
returns-clause-faults g c = λ can.
    let found = rw c.in-Some.is at c.in_ok-lookup.ensures.found in
    IfOk-weaker c.joined.result _ _ (λ spots is.
    subst (AreAllTypeFaults c.args.descs.now) (sym (is ∙ ap (spots_from 0) c.deref.ensures.value))
    (all_types found.0 found.1 c.in_ok-rows.rows.items c.in_ok-rows.ensures.outs)) c.joined.ensures

pub returns-clause-within : goal.returns-clause-within
returns-clause-within g c =
    let size = c.in_ok-rows.ensures.outs.0 in
    IfOk-weaker c.joined.result _ _ (λ spots is.
    subst (AreWithin c.args.descs.now) (sym (is ∙ ap (spots_from 0) c.deref.ensures.value))
    (rows_within c.in_ok-rows.rows.items (length c.args.descs.now) (omega (arith, size)))) c.joined.ensures
