use Rattle.proto_types.proofs.Common.{◌≡◌, ◌∙◌, refl, append-nil, arith, take_all, on_ok_weaker, scope_in, references_by_message}
use Rattle.std.proofs.lemmas.Grind.{common_steps}
use Rattle.proto_types.proofs.Scoping.{candidate_inside}
use Rattle.proto_types.proofs.Trees.{references_out}
use Rattle.proto_types.proofs.Walking.{finds_both, finds_next}
use Rattle.proto_types.proofs.finder.Finder.+messages.Goals as goal

pub message-own_fields-requires-clause-inner : goal.message-own_fields-requires-clause-inner
message-own_fields-requires-clause-inner t c =
    c.new-inner.ensures.ready c.args.self.now.names
    (rw (c.as_str-2.ensures.value, c.in_ok-full.ensures) (candidate_inside _ _ _ c.requires.inside))

pub message-returns-clause-found : goal.message-returns-clause-found
message-returns-clause-found t c =
    let m = c.args.message.now in
    let scope = c.args.outer.now.scope.now in
    let inner : c.new-inner.result.scope.now ≡ scope_in m scope = grind (arith, common_steps) in
    let own = rw (c.as_slice-fields.ensures, inner) at c.in_ok-own_fields.ensures.found in
    let inside = rw (c.in_ok-own_fields.ensures.same, c.in_ok-own_fields.ensures.inner, inner, c.as_slice.ensures)
    at c.messages.ensures.found in
    rw (references_out m scope) (on_ok_weaker c.messages.result (λ found. finds_both own found) inside)

pub messages-loop-message-init : goal.messages-loop-message-init
messages-loop-message-init t c = record {
  so_far = λ before h. rw (append-nil before) h;
  ready = c.requires;
  scope = refl;
  same = refl;
}

pub messages-loop-message-preserved : goal.messages-loop-message-preserved
messages-loop-message-preserved t c =
    let so_far = c.loop-message.invariant in
    let next = c.in_ok-message.ensures in
    record {
      so_far = finds_next (λ m. references_by_message m c.args.outer.now.scope.now) c.args.messages.now
          c.loop-message.message-index c.message-item.result c.loop-message-test.true c.message-item.is so_far.so_far
          (rw (so_far.same, so_far.scope) at next.found);
      ready = rw so_far.same at next.ready;
      scope = next.scope ∙ so_far.scope;
      same = next.same ∙ so_far.same;
    }

pub messages-returns-clause-found : goal.messages-returns-clause-found
messages-returns-clause-found t c =
    rw (take_all c.loop-message.message-index c.args.messages.now (omega arith)) at c.loop-message.invariant.so_far
