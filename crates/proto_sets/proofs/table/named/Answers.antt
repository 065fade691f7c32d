use Rattle.std.proofs.Common.{arith}
use Rattle.std.proofs.lemmas.List.{length_push, map_push}
use Rattle.proto_sets.specs.TableSteps.{named_by}
use Rattle.proto_sets.proofs.Tables.{next_named, next_passed, no_extension}
use Rattle.proto_sets.proofs.table.named.Goals as goal
use Rattle.proto_sets.proofs.table.named.Goals.{in-Some+in_ok-push, in_default}

pub loop-extension-preserved : goal.loop-extension-preserved
loop-extension-preserved c =
    let (are, few) = c.loop-extension.invariant in
    elim c.match-named_extension.branch [
      | in-Some+in_ok-push w ↦ (
          let named = c.loop-extension.named.items in
          let is = rw w.in-Some.is at c.named_extension.ensures in
          rw (w.named-is, w.in_ok-push.ensures.items, map_push named_by named w.in-Some.extension) (
            next_named c.args.extensions.now c.loop-extension.extension-index no_extension _ c.loop-extension-test.true are
                (named_by w.in-Some.extension) is,
            omega (arith, few, length_push named w.in-Some.extension),
          ))
      | in_default w ↦ rw w.named-is (
        next_passed c.args.extensions.now c.loop-extension.extension-index no_extension _ c.loop-extension-test.true are
            w.in_default.ensures,
        omega (arith, few),
      )
    ]
