use Rattle.proto_names.proofs.Common.{◌≡◌, ◌∙◌, sym, ap, subst, arith, List, ℕ, [], inl, inr, cases_lt, get_or-map, SeenBy, Decides}
use Rattle.proto_names.specs.Around.{scope_at, text_of, texts_of}
use Rattle.proto_names.proofs.index.NameIndex.innermost.Goals as goal

pub loop-scope-preserved : goal.loop-scope-preserved
loop-scope-preserved c k less decides =
    let scopes = c.args.scopes.now in
    let index = c.loop-scope.scope-index in
    let spelled = c.args.spelled.text.now in
    let item = c.scope-item.result in
    elim (cases_lt k index) [
      | inl low ↦ c.loop-scope.invariant k low decides
      | inr high ↦ (let same : k ≡ index = omega (arith, less, high) in
          let at : scope_at (texts_of scopes) k ≡ item.text.now =
          ap (scope_at (texts_of scopes)) same ∙ get_or-map text_of scopes index item [] c.loop-scope-test.true
          ∙ ap text_of (sym c.scope-item.is) in
          c.in_default.ensures (subst (λ (d : List ℕ). Decides c.args.self.now.occurrences
          (SeenBy c.args.links.now c.args.file) d spelled) at decides))
    ]
