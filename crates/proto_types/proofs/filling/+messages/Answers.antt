use Rattle.proto_types.proofs.Common.{arith, rules, out-MessageDesc, out-roll-MessageDesc, roll-MessageDesc, scope_in, IsSeen, field_scope}
use Rattle.proto_types.proofs.Trees.{references_out, remade_typed}
use Rattle.proto_types.proofs.Walking.{filled_next, puts_both}
use Rattle.proto_types.proofs.filling.+messages.Goals as goal

pub fill_message-returns : goal.fill_message-returns
fill_message-returns t c =
    let m = c.args.message.now in
    let fields = c.fill_row.new.row in
    let nested = c.fill_messages.new.messages in
    let with_fields = roll-MessageDesc (record (out-MessageDesc m) { fields = fields }) in
    let filled = record (out-MessageDesc with_fields) { nested = nested } in
    let inside = simp out-roll-MessageDesc at c.fill_messages.ensures in
    record {
      puts = λ os seen scope.
          rw (references_out m scope) (λ types rest all is.
          let put = puts_both _ _ _ _ (c.fill_row.ensures.puts os seen (field_scope scope (out-MessageDesc m)))
          (inside.puts os seen (scope_in m scope)) types rest all is in (
            put.0,
            remade_typed os (IsSeen seen) scope m filled fields nested (simp out-roll-MessageDesc)
                put.1.0 put.1.1,
          ));
    }

pub fill_messages-loop-position-preserved : goal.fill_messages-loop-position-preserved
fill_messages-loop-position-preserved t c =
    let so_far = c.loop-position.invariant in
    let next = filled_next (record { size = so_far.0.0; rest = so_far.0.1; filled = so_far.1 })
    (search (rules, arith)) c.index_mut.ensures.value c.fill_message.ensures in
    ((next.size, next.rest), next.filled)
