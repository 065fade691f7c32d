use Rattle.proto_names.proofs.Common.{◌∙◌, sym, ap, arith, subst, Contains, Some, get_or_default, Contains-get_or, same_Some, Index, at, blank, Location}
use Rattle.proto_names.specs.declared.index.Defined.{Defined}
use Rattle.proto_names.proofs.index.NameIndex.find.Goals as goal

pub returns-in-Some-clause-found : goal.returns-in-Some-clause-found
returns-in-Some-clause-found c d e =
    let named = c.named.result.names in
    let o = at named c.loop-position.position in
    let w = c.named.ensures.found o (Contains-get_or named c.loop-position.position blank (omega arith)) in
    let same = same_Some _ d e in (
      o,
      subst (λ (index : Index). Contains index.occurrences o) c.self.view_is w.0,
      rw (c.top.ensures, c.new.ensures) at w.1,
      sym c.kind.ensures ∙ c.in-Some.is ∙ ap (λ (d : Defined). Some d.kind) same,
      ap (λ (s : Location). s.file) (sym c.location-file.ensures) ∙ ap (λ (d : Defined). d.file) same,
    )

pub returns-clause-none : goal.returns-clause-none
returns-clause-none c e o within name =
    let named = c.named.result.names in
    let (k, inside, is) = c.named.ensures.all o
    (subst (λ (index : Index). Contains index.occurrences o) (sym c.self.view_is) within)
    (rw (c.top.ensures, c.new.ensures) name) in
    rw (get_or_default named k blank o inside ∙ is) at (c.loop-position.invariant k (omega (arith, inside)) inside)

pub returns-in-Some-clause-within : goal.returns-in-Some-clause-within
returns-in-Some-clause-within c =
    let named = c.named.result.names in
    let o = at named c.loop-position.position in
    let w = c.named.ensures.found o (Contains-get_or named c.loop-position.position blank (omega arith)) in
    let inside = c.self.invariant.0.inside o w.0 in
    let file = ap (λ (s : Location). s.file) c.location-file.ensures in
    let files = ap (λ (index : Index). index.files) c.self.view_is in
    omega (arith, inside, file, files)
