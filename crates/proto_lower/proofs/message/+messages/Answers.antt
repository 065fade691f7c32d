use Rattle.proto_lower.proofs.Common.{sym, refl, arith, nested_of}
use Rattle.proto_lower.proofs.Nested.{nested_message, one_more, none_more}
use Rattle.proto_lower.proofs.message.+messages.Goals as goal
use Rattle.proto_lower.proofs.message.+messages.Goals.{put_nested-in-Map+in_ok-put_entry-in-Map, put_nested-in-Message+in_ok-put_message-in-Message, put_nested-in-Field, put_nested-in-Oneof, put_nested-in-Option, put_nested-in-Enum, put_nested-in-Reserved, put_nested-in-Empty}

pub put_nested-loop-item-preserved : goal.put_nested-loop-item-preserved
put_nested-loop-item-preserved t c =
    let more = one_more (nested_of c.args.full.now) c.args.items.now c.loop-item.item-index c.item-item.result
    c.args.out.now.items c.loop-item.out.items in
    let none = none_more (nested_of c.args.full.now) c.args.items.now c.loop-item.item-index c.item-item.result
    c.args.out.now.items c.loop-item.out.items (omega arith) c.item-item.is c.loop-item.invariant.1 in
    let same = c.loop-item.invariant.0 in
    elim c.match-item.branch [
      | put_nested-in-Map+in_ok-put_entry-in-Map w ↦ (
        rw w.scope-is same,
        rw (w.out-is, w.in_ok-put_entry-in-Map.ensures)
            (more _ (omega arith) c.item-item.is c.loop-item.invariant.1 (rw (w.in-Map.is, w.get.ensures) refl)),
      )
      | put_nested-in-Message+in_ok-put_message-in-Message w ↦ (
        rw (w.scope-is, w.in_ok-put_message-in-Message.ensures.same) same,
        rw (w.out-is, w.in_ok-put_message-in-Message.ensures.put, same)
            (more _ (omega arith) c.item-item.is c.loop-item.invariant.1 (rw (w.in-Message.is, w.get-in-Message.ensures)
            (sym (nested_message c.args.full.now w.in-Message.inner)))),
      )
      | put_nested-in-Field w ↦ (rw w.scope-is same, rw w.out-is (none (rw w.in-Field.is refl)))
      | put_nested-in-Oneof w ↦ (rw w.scope-is same, rw w.out-is (none (rw w.in-Oneof.is refl)))
      | put_nested-in-Option w ↦ (rw w.scope-is same, rw w.out-is (none (rw w.in-Option.is refl)))
      | put_nested-in-Enum w ↦ (rw w.scope-is same, rw w.out-is (none (rw w.in-Enum.is refl)))
      | put_nested-in-Reserved w ↦ (rw w.scope-is same, rw w.out-is (none (rw w.in-Reserved.is refl)))
      | put_nested-in-Empty w ↦ (rw w.scope-is same, rw w.out-is (none (rw w.in-Empty.is refl)))
    ]
