use Rattle.std.proofs.lemmas.Result.{IfOk-weaker}
use Rattle.proto_file.proofs.OneLocal.{own_of_file}
use Rattle.proto_file.proofs.Ruled.{text_fault_is}
use Rattle.proto_file.proofs.description.own_faults.Goals as goal

pub returns-in-Ok-clause-all : goal.returns-in-Ok-clause-all
returns-in-Ok-clause-all c = IfOk-weaker c.broken_rules.result _ _ (λ faults all f.
    let own = own_of_file c.args.limits.now c.args.name.now c.args.text.now c.in-Ok.file f c.in-Ok.ensures.file in
    (λ h. own.1 ((all f).0 h), λ w. (all f).1 (own.0 w))) c.broken_rules.ensures.all

pub returns-in_ok-vec-in-Err-First-clause-all : goal.returns-in_ok-vec-in-Err-First-clause-all
returns-in_ok-vec-in-Err-First-clause-all c = text_fault_is c.args.limits.now c.args.name.now c.args.text.now
    c.in-Err-First.fault _ c.in_ok-vec-in-Err-First.ensures.items
    (rw c.in-Err-First.field-0-is at c.in-Err-First.ensures.fault)
