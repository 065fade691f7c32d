use Rattle.std.proofs.Common.{sym, subst}
use Rattle.file_faults.specs.FaultSpots.{AreSpotsOf, of_imports, of_types}
use Rattle.file_faults.proofs.Passing.{all_within, bad_within, names_found}
use Rattle.file_faults.proofs.all.spots_of.Goals as goal

pub returns-in_ok-bad_imports-in-2-clause-spots : goal.returns-in_ok-bad_imports-in-2-clause-spots
returns-in_ok-bad_imports-in-2-clause-spots g c =
    let spots = c.in_ok-bad_imports-in-2.field-0.items in
    subst (λ p. AreSpotsOf c.args.limits.now c.args.descs.now p spots) (sym c.in-2.is)
    (of_imports spots c.in_ok-bad_imports-in-2.ensures)

pub returns-in_ok-bad_imports-in-2-clause-within : goal.returns-in_ok-bad_imports-in-2-clause-within
returns-in_ok-bad_imports-in-2-clause-within g c =
    bad_within c.args.descs.now c.in_ok-bad_imports-in-2.field-0.items c.in_ok-bad_imports-in-2.ensures

pub returns-in-3-clause-spots : goal.returns-in-3-clause-spots
returns-in-3-clause-spots g c = names_found c.args.limits.now c.args.descs.now c.args.pass c.in-3.is
    c.repeated_names.result c.repeated_names.ensures.few c.repeated_names.ensures.all

pub returns-in-3-clause-within : goal.returns-in-3-clause-within
returns-in-3-clause-within g c = all_within c.args.limits.now c.args.descs.now c.args.pass c.in-3.is
    c.repeated_names.result c.repeated_names.ensures.all

pub returns-in_ok-all_type_faults-in-4-clause-spots : goal.returns-in_ok-all_type_faults-in-4-clause-spots
returns-in_ok-all_type_faults-in-4-clause-spots g c =
    let spots = c.in_ok-all_type_faults-in-4.field-0.items in
    subst (λ p. AreSpotsOf c.args.limits.now c.args.descs.now p spots) (sym c.in-4.is)
    (of_types spots c.in_ok-all_type_faults-in-4.ensures.faults)
