use Rattle.proto_names.proofs.Common.{◌∙◌, ℕ, List, ap, Occurrence, Decides, SeenBy}
use Rattle.proto_names.specs.Around.{texts_of}
use Rattle.proto_names.specs.Steps.{IsDecision}
use Rattle.proto_names.specs.declared.resolve.Decision.{Decision}
use Rattle.proto_names.specs.declared.resolve.Decision.TheVariants as decision
use Rattle.proto_names.proofs.index.NameIndex.find_among.Goals as goal

decision_decides : (os : List Occurrence) (Seen : ℕ → Type 0) (c spelled : List ℕ) (d : Decision)
    → IsDecision os Seen c spelled d → Decides os Seen c spelled
decision_decides os Seen c spelled (decision.Known what) is = is.0
decision_decides os Seen c spelled decision.Scope is = is

pub returns-in-Some : goal.returns-in-Some
returns-in-Some c =
    let inner = c.in-Some.inner.text.now in
    let listed = ap texts_of c.deref.ensures.value ∙ c.scopes.view_is in
    let decides = decision_decides c.args.self.now.occurrences (SeenBy c.args.links.now c.args.file) inner
    c.args.spelled.text.now c.in-Some.decision c.in-Some.ensures.1 in
    rw (← listed) (inner, c.in-Some.ensures.0, decides, c.type_in.ensures)

pub returns-in-None : goal.returns-in-None
returns-in-None c =
    let listed = ap texts_of c.deref.ensures.value ∙ c.scopes.view_is in
    rw (← listed) c.in-None.ensures
