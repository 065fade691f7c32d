use Rattle.proto_names.proofs.Common.{IsCandidate, length}
use Rattle.proto_names.specs.Around.{AreScopes, texts_of}
use Rattle.proto_names.proofs.scopes.Scopes.up_to.Given as goal

abbrev pub invariant-loop-inner : goal.invariant-loop-inner
invariant-loop-inner l = record {
  listed : AreScopes l.scope.text.now (λ c. IsCandidate c l.inner.text.now) (texts_of l.scopes.items);
  within : IsCandidate l.inner.text.now l.scope.text.now;
  left : IsCandidate l.outside.text.now l.inner.text.now;
}

abbrev pub decreases-loop-inner : goal.decreases-loop-inner
decreases-loop-inner l = length l.inner.text.now
