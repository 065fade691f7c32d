use Rattle.std.proofs.lemmas.Result.{IfOk-weaker}
use Rattle.schema_check.proofs.Telling.{all_placed, all_told, first_is}
use Rattle.schema_check.proofs.told.told_faults.Goals as goal

pub returns-in-Some-clause-told : goal.returns-in-Some-clause-told
returns-in-Some-clause-told g c =
    let limits = c.args.limits.now in
    let sources = c.args.sources.now in
    let first = first_is limits sources c.in_ok-first.field-0 c.in-Some.first c.in_ok-first.ensures c.in-Some.is in
    IfOk-weaker c.all_faults.result _ _
    (λ faults from. all_told limits sources c.in-Some.first faults.items first.0 from) (c.all_faults.ensures first.0)

pub returns-in-Some-clause-placed : goal.returns-in-Some-clause-placed
returns-in-Some-clause-placed g c =
    let limits = c.args.limits.now in
    let sources = c.args.sources.now in
    let first = first_is limits sources c.in_ok-first.field-0 c.in-Some.first c.in_ok-first.ensures c.in-Some.is in
    IfOk-weaker c.all_faults.result _ _ (λ faults from. all_placed limits sources c.in-Some.first faults.items from)
    (c.all_faults.ensures first.0)
