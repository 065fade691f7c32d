use Rattle.proto_types.proofs.Common.{sym, IfOk-weaker}
use Rattle.proto_types.proofs.Recalls.{meaning_by, recalled_more, recalled_type}
use Rattle.proto_types.proofs.finder.Finder.meaning.Goals as goal

pub returns-in-Some-clause-meaning : goal.returns-in-Some-clause-meaning
returns-in-Some-clause-meaning c =
    let inner = c.args.inner.now in
    let is = rw c.deref.ensures.value at (sym c.in-Some.ensures) in
    let named = recalled_type _ _ inner.scope.now c.args.text.now inner.recalled.items c.in-Some.one.now
    c.requires.recalled is in
    IfOk-weaker c.meaning_by.result _ _ (λ m by options. meaning_by _ _ _ _ _ _ options _ m named by)
    c.meaning_by.ensures

pub returns-clause-meaning : goal.returns-clause-meaning
returns-clause-meaning c options =
    meaning_by _ _ _ _ _ _ options _ _ c.in_ok-found.ensures.found c.in_ok-meaning.ensures

pub returns-clause-ready : goal.returns-clause-ready
returns-clause-ready c =
    let inner = c.find.new.inner in
    let ready = c.in_ok-found.ensures.ready in
    record {
      inside = ready.inside;
      around = ready.around;
      recalled = recalled_more _ _ inner.scope.now _ inner.recalled.items c.remember.new.recalled.items ready.recalled
          (rw (← c.in_ok-found.ensures.scope) at c.in_ok-found.ensures.found) c.in_ok-remember.ensures;
    }
