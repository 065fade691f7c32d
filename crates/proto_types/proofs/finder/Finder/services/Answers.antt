use Rattle.proto_types.proofs.Common.{◌∙◌, refl, append-nil, references_of_service}
use Rattle.proto_types.proofs.Walking.{finds_next}
use Rattle.proto_types.proofs.finder.Finder.services.Goals as goal

pub loop-service-init : goal.loop-service-init
loop-service-init c = record { so_far = λ before h. rw (append-nil before) h; same = refl }

pub loop-service-preserved : goal.loop-service-preserved
loop-service-preserved c =
    let so_far = c.loop-service.invariant in
    let next = c.in_ok-service.ensures in
    record {
      so_far = finds_next (references_of_service c.args.scope.now) c.args.services.now c.loop-service.service-index
          c.service-item.result c.loop-service-test.true c.service-item.is so_far.so_far (rw so_far.same at next.found);
      same = next.same ∙ so_far.same;
    }
