use Rattle.proto_checks.proofs.Common.{◌≡◌, [], arith, take_all, common_steps, append-nil, taken, file_package}
use Rattle.proto_checks.proofs.Clashes.{repeated_more, repeated_none}
use Rattle.proto_checks.proofs.package.put_packages_twice.Goals.{in-Package+in_ok-put_again, in_default}
use Rattle.proto_checks.proofs.package.put_packages_twice.Goals as goal

pub loop-statement-init : goal.loop-statement-init
loop-statement-init c = repeated_none

pub loop-statement-preserved : goal.loop-statement-preserved
loop-statement-preserved c =
    let more = taken file_package c.args.statements.now c.loop-statement.statement-index c.statement-item.result
    (omega arith) c.statement-item.is in
    elim c.match-statement.branch [
      | in-Package+in_ok-put_again w ↦ rw (w.faults-is, w.is_named-is, more, w.in-Package.is) (repeated_more _ _
          c.loop-statement.invariant (rw w.get.ensures at w.in_ok-put_again.ensures))
      | in_default w ↦ (let none : file_package c.statement-item.result ≡ [] = grind (arith, common_steps) in
          rw (w.faults-is, w.is_named-is, more, none, append-nil) c.loop-statement.invariant)
    ]

pub returns : goal.returns
returns c =
    let kept = rw (take_all c.loop-statement.statement-index c.args.statements.now (omega arith)) at
    c.loop-statement.invariant in kept.gains
