use Rattle.proto_types.proofs.Common.{◌∙◌, refl, arith, append-nil, take_all, references_of_field}
use Rattle.proto_types.proofs.Walking.{finds_next}
use Rattle.proto_types.proofs.finder.Finder.fields.Goals as goal

pub loop-field-init : goal.loop-field-init
loop-field-init c = record {
  so_far = λ before h. rw (append-nil before) h;
  ready = c.requires;
  scope = refl;
  same = refl;
}

pub loop-field-preserved : goal.loop-field-preserved
loop-field-preserved c =
    let so_far = c.loop-field.invariant in
    let next = c.in_ok-field.ensures in
    record {
      so_far = finds_next (references_of_field c.args.inner.now.scope.now) c.args.fields.now c.loop-field.field-index
          c.field-item.result c.loop-field-test.true c.field-item.is so_far.so_far
          (rw (so_far.same, so_far.scope) at next.found);
      ready = rw so_far.same at next.ready;
      scope = next.scope ∙ so_far.scope;
      same = next.same ∙ so_far.same;
    }

pub returns-clause-found : goal.returns-clause-found
returns-clause-found c =
    rw (take_all c.loop-field.field-index c.args.fields.now (omega arith)) at c.loop-field.invariant.so_far
