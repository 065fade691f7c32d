use Rattle.proto_types.proofs.Common.{◌∙◌, refl, arith, append-nil, take_all, references_of_method}
use Rattle.proto_types.proofs.Scoping.{candidate_inside}
use Rattle.proto_types.proofs.Walking.{finds_next}
use Rattle.proto_types.proofs.finder.Finder.service.Goals as goal

pub loop-method-init : goal.loop-method-init
loop-method-init c = record {
  so_far = λ before h. rw (append-nil before) h;
  ready = c.new-inside.ensures.ready c.args.self.now.names
      (rw (c.as_str-2.ensures.value, c.in_ok-full.ensures) (candidate_inside _ _ _ c.requires));
  scope = refl;
  same = refl;
}

pub loop-method-preserved : goal.loop-method-preserved
loop-method-preserved c =
    let so_far = c.loop-method.invariant in
    let next = c.in_ok-method.ensures in
    record {
      so_far = finds_next (references_of_method c.new-inside.result.scope.now) c.as_slice-method-items.result.now
          c.loop-method.method-index
          c.method-item.result c.loop-method-test.true c.method-item.is so_far.so_far
          (rw (so_far.same, so_far.scope) at next.found);
      ready = rw so_far.same at next.ready;
      scope = next.scope ∙ so_far.scope;
      same = next.same ∙ so_far.same;
    }

pub returns-clause-found : goal.returns-clause-found
returns-clause-found c =
    let items = c.as_slice-method-items.result.now in
    let all = rw (take_all c.loop-method.method-index items (omega arith)) at c.loop-method.invariant.so_far in
    rw (
      c.new-inside.ensures.scope,
      c.as_str-2.ensures.value,
      c.in_ok-full.ensures,
      c.as_str.ensures,
      c.as_slice-method-items.ensures,
    ) at all
