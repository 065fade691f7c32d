use Rattle.proto_checks.proofs.Common.{◌≡◌, refl, [], arith, sym, each_cons, each_flat, each_nil, gains_each, gains_next, gains_same, gains_skip, gains_start, gains_union, StandsAt, Each, Spot, bodies_of, BodyBreaks}
use Rattle.proto_checks.proofs.Items.{nested_bodies}
use Rattle.proto_checks.proofs.body.+put_message_faults.Goals.{in-Message+in_ok-put_message_faults-in-Message, in-Field, in-Map, in-Oneof, in-Option, in-Enum, in-Reserved, in-Empty}
use Rattle.proto_checks.proofs.body.+put_message_faults.Goals as goal

pub loop-item-init : goal.loop-item-init
loop-item-init t c = gains_start

pub loop-item-preserved : goal.loop-item-preserved
loop-item-preserved t c =
    let here = c.item-item.result in
    let stands : StandsAt c.as_slice-items.result.now c.loop-item.item-index here = (omega arith, sym c.item-item.is) in
    let none : bodies_of here ≡ [] → (x : Spot) → Each (bodies_of here) BodyBreaks x → ⊥ =
    λ is. rw is (each_nil BodyBreaks) in
    elim c.match-item.branch [
      | in-Message+in_ok-put_message_faults-in-Message w ↦ rw w.faults-is (gains_next here stands
          c.loop-item.invariant (rw (w.in-Message.is, nested_bodies w.in-Message.nested)
          (rw w.get.ensures at w.in_ok-put_message_faults-in-Message.ensures)))
      | in-Field w ↦ rw w.faults-is (gains_skip here stands (none (rw w.in-Field.is refl)) c.loop-item.invariant)
      | in-Map w ↦ rw w.faults-is (gains_skip here stands (none (rw w.in-Map.is refl)) c.loop-item.invariant)
      | in-Oneof w ↦ rw w.faults-is (gains_skip here stands (none (rw w.in-Oneof.is refl)) c.loop-item.invariant)
      | in-Option w ↦ rw w.faults-is (gains_skip here stands (none (rw w.in-Option.is refl)) c.loop-item.invariant)
      | in-Enum w ↦ rw w.faults-is (gains_skip here stands (none (rw w.in-Enum.is refl)) c.loop-item.invariant)
      | in-Reserved w ↦
          rw w.faults-is (gains_skip here stands (none (rw w.in-Reserved.is refl)) c.loop-item.invariant)
      | in-Empty w ↦ rw w.faults-is (gains_skip here stands (none (rw w.in-Empty.is refl)) c.loop-item.invariant)
    ]

pub returns : goal.returns
returns t c =
    let items = c.as_slice-items.result.now in
    let nested = gains_same (gains_each (omega arith) c.loop-item.invariant) (each_flat BodyBreaks bodies_of items) in
    rw c.as_slice-items.ensures at
    (gains_same (gains_union c.in_ok-put_body_faults.ensures nested) (each_cons BodyBreaks items _))
