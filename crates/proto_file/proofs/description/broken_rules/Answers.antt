use Rattle.std.proofs.Common.{◌∙◌, ap, map}
use Rattle.std.proofs.lemmas.Result.{IfOk-weaker}
use Rattle.proto_base.specs.FileFaults.{at_step}
use Rattle.proto_file.proofs.Ruled.{rules_are, rules_precede}
use Rattle.proto_file.proofs.description.broken_rules.Goals as goal

pub returns-clause-all : goal.returns-clause-all
returns-clause-all c = IfOk-weaker c.at_rules.result _ _ (λ faults is. rules_are c.in_ok-spots.spots.items faults.items
    (is ∙ ap (map (at_step 2)) c.deref.ensures.value) (rw c.in_ok-desc.ensures at c.in_ok-spots.ensures.all))
    c.at_rules.ensures

pub returns-clause-order : goal.returns-clause-order
returns-clause-order c = IfOk-weaker c.at_rules.result _ _ (λ faults is. rules_precede c.in_ok-spots.spots.items
    faults.items (is ∙ ap (map (at_step 2)) c.deref.ensures.value) c.in_ok-spots.ensures.order) c.at_rules.ensures
