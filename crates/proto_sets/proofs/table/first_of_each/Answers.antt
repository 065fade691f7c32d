use Rattle.std.proofs.Common.{arith, take}
use Rattle.std.proofs.lemmas.List.{map_push}
use Rattle.proto_compilation.specs.Parts.{declared_extension}
use Rattle.proto_sets.proofs.Tables.{next_kept, next_pushed, no_name}
use Rattle.proto_sets.proofs.table.first_of_each.Goals as goal
use Rattle.proto_sets.proofs.table.first_of_each.Goals.{then-not-is_repeated+in_ok-from_str+in_ok-push, else-not-is_repeated}

pub loop-extension-preserved : goal.loop-extension-preserved
loop-extension-preserved c =
    let (to, from) = rw c.deref.ensures.value at c.is_repeated.ensures in
    elim c.if-not-is_repeated.branch [
      | then-not-is_repeated+in_ok-from_str+in_ok-push w ↦
          rw (
            w.table-is,
            w.in_ok-push.ensures.items,
            map_push declared_extension c.loop-extension.table.items _,
            w.in_ok-from_str.ensures.ok,
          )
          (next_pushed c.args.sorted.now c.loop-extension.extension-index no_name _ c.requires
          c.loop-extension-test.true c.loop-extension.invariant
          (λ again. let told = from again in grind (arith, told, w.if-not-is_repeated.true)))
      | else-not-is_repeated w ↦
          rw w.table-is (next_kept c.args.sorted.now c.loop-extension.extension-index no_name _ c.requires
          c.loop-extension-test.true c.loop-extension.invariant (to (grind (arith, w.if-not-is_repeated.false))))
    ]
