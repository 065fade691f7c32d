use Rattle.proto_base.proofs.Gains.{gains_each, gains_next, gains_one, gains_same, gains_skip}
use Rattle.proto_base.specs.Sets.{StandsAt}
use Rattle.proto_links.proofs.Common.{arith, sym}
use Rattle.proto_links.proofs.AllBad.{wrong_each, wrong_one}
use Rattle.proto_links.proofs.bad.put_wrong.Goals as goal
use Rattle.proto_links.proofs.bad.put_wrong.Goals.{in-Some+in_ok-push, in_default}

pub loop-import-preserved : goal.loop-import-preserved
loop-import-preserved c =
    let here : StandsAt c.args.imports.now c.loop-import.import-index c.import-item.result =
    (omega arith, sym c.import-item.is) in
    elim c.match-fault_of.branch [
      | in-Some+in_ok-push w ↦ rw w.spots-is (gains_next _ here c.loop-import.invariant
          (wrong_one _ _ _ _ _ _ w.in-Some.ensures (rw w.in_ok-push.ensures.items (gains_one _ _))))
      | in_default w ↦ rw w.spots-is
          (gains_skip _ here (λ x v. w.in_default.ensures x.kind v.1) c.loop-import.invariant)
    ]

pub returns : goal.returns
returns c = gains_same (gains_each (omega arith) c.loop-import.invariant) (wrong_each _ _ _)
