use Rattle.proto_names.proofs.Common.{arith, ap, inl, inr, refl, length, map_push, IsCandidate}
use Rattle.proto_names.proofs.Listing.{listed_more, met, none_listed}
use Rattle.proto_names.proofs.Unique.{candidate_length, candidate_trans}
use Rattle.proto_names.specs.Around.{text_of, texts_of}
use Rattle.proto_names.proofs.scopes.Scopes.up_to.Goals as goal

pub loop-inner-init : goal.loop-inner-init
loop-inner-init c = rw c.new-scopes.ensures.items
    (record { listed = none_listed c.args.scope.text.now; within = inr (inl refl); left = c.requires })

pub loop-inner-preserved : goal.loop-inner-preserved
loop-inner-preserved c =
    let text = c.args.scope.text.now in
    let scopes = c.loop-inner.scopes.items in
    let inner = c.loop-inner.inner in
    let outer = c.parent-inner.result.text.now in
    let so_far = c.loop-inner.invariant in
    let around = c.parent-inner.ensures in
    rw (c.in_ok-push.ensures.items, map_push text_of scopes inner) (record {
      listed = listed_more text inner.text.now (λ d. IsCandidate d outer) (texts_of scopes) so_far.listed so_far.within
          (λ d is. omega (arith, candidate_length d outer is, around.shorter)) around.next;
      within = candidate_trans outer inner.text.now text around.candidate so_far.within;
      left = elim (around.next c.args.outside.text.now so_far.left) [
        | inl same ↦ absurd (omega (arith, ap length same, c.loop-inner-test.true))
        | inr inside ↦ inside
      ];
    })

pub returns : goal.returns
returns c = met c.args.scope.text.now c.loop-inner.inner.text.now c.args.outside.text.now
    (texts_of c.loop-inner.scopes.items) c.loop-inner.invariant.listed c.loop-inner.invariant.left
    c.loop-inner-test.false
