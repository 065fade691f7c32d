use Rattle.proto_checks.proofs.Common.{◌≡◌, [], arith, sym, common_steps, each_flat, each_nil, each_single, gains_each, gains_next, gains_same, gains_skip, gains_start, file_package}
use Rattle.proto_checks.proofs.package.put_long_packages.Goals.{in-Package+in_ok-put_long_package, in_default}
use Rattle.proto_checks.proofs.package.put_long_packages.Goals as goal

pub loop-statement-init : goal.loop-statement-init
loop-statement-init c = gains_start

pub loop-statement-preserved : goal.loop-statement-preserved
loop-statement-preserved c =
    elim c.match-statement.branch [
      | in-Package+in_ok-put_long_package w ↦ rw w.faults-is (gains_next _ (omega arith, sym c.statement-item.is)
          c.loop-statement.invariant (rw w.in-Package.is (gains_same
          (rw w.get.ensures at w.in_ok-put_long_package.ensures) (each_single _ _))))
      | in_default w ↦ (let none : file_package c.statement-item.result ≡ [] = grind (arith, common_steps) in
          rw w.faults-is (gains_skip _ (omega arith, sym c.statement-item.is) (rw none (each_nil _))
          c.loop-statement.invariant))
    ]

pub returns : goal.returns
returns c = gains_same (gains_each (omega arith) c.loop-statement.invariant) (each_flat _ file_package _)
