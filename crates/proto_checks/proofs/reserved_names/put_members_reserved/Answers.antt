use Rattle.proto_checks.proofs.Common.{[], arith, ap, length-map, gains_each, gains_hit, gains_pass, gains_start, Marked, name_mark, Declared}
use Rattle.proto_checks.proofs.Clashes.{stands_made}
use Rattle.proto_checks.proofs.reserved_names.put_members_reserved.Goals.{then-is_reserved+in_ok-put_fault, else-is_reserved}
use Rattle.proto_checks.proofs.reserved_names.put_members_reserved.Goals as goal

pub loop-member-init : goal.loop-member-init
loop-member-init g c = gains_start

pub loop-member-preserved : goal.loop-member-preserved
loop-member-preserved g c =
    let mark = name_mark g.D.Declares.declared in
    let mark_of : Declared → Marked = λ d. record { text = d.name; place = d.place } in
    let told = c.is_reserved.ensures in
    let stands = rw (ap mark_of (c.declared_name-declared.ensures [])) at
    (stands_made mark c.args.members.now c.loop-member.member-index c.member-item.result (omega arith)
    c.member-item.is) in
    elim c.if-is_reserved.branch [
      | then-is_reserved+in_ok-put_fault w ↦ rw w.faults-is
          (gains_hit _ stands (grind (arith, told)) c.loop-member.invariant w.in_ok-put_fault.ensures)
      | else-is_reserved w ↦ rw w.faults-is (gains_pass _ stands (grind (arith, told)) c.loop-member.invariant)
    ]

pub returns : goal.returns
returns g c = gains_each (omega (arith, length-map c.args.members.now (name_mark g.D.Declares.declared)))
    c.loop-member.invariant
