use Rattle.proto_names.proofs.Common.{ℕ, List, [], map_push, subst, sym, IsCandidate}
use Rattle.proto_names.proofs.Listing.{listed_around}
use Rattle.proto_names.specs.Around.{AreScopes, text_of, texts_of}
use Rattle.proto_names.proofs.scopes.Scopes.around.Goals as goal

pub returns : goal.returns
returns c =
    let text = c.args.scope.text.now in
    let scopes = c.all.inside.scopes.items in
    let inside = subst (λ (xs : List (List ℕ)). AreScopes text (λ d. IsCandidate d []) xs) (sym c.all.view_is)
    (rw c.top.ensures at c.in_ok-all.ensures) in
    rw (c.in_ok-push.ensures.items, map_push text_of scopes c.top-2.result, c.top-2.ensures)
    (listed_around text (texts_of scopes) inside)
