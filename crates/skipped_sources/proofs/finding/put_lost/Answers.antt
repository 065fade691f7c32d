use Rattle.std.proofs.Common.{◌≡◌, ◌∙◌, sym, append-nil, rules, true, false}
use Rattle.std.proofs.lemmas.Result.{on_ok_weaker}
use Rattle.proto_syntax.specs.Grammar.{among}
use Rattle.proto_tree.specs.Text.{joined}
use Rattle.skipped_sources.proofs.finding.put_lost.Goals as goal

pub returns-then-contains : goal.returns-then-contains
returns-then-contains c = λ listed holds.
    let same : c.as_str.result.now ≡ joined c.in-Import.import.path = search rules in
    let yes : among (joined c.in-Import.import.path) listed ≡ true =
    rw same at (sym (holds c.as_str.result.now) ∙ sym c.contains.ensures ∙ c.if-contains.true) in
    rw (c.in-Import.is, yes) (sym (append-nil _))

pub returns : goal.returns
returns c = on_ok_weaker c.put_import.result (λ put listed holds.
    let same : c.as_str.result.now ≡ joined c.in-Import.import.path = search rules in
    let no : among (joined c.in-Import.import.path) listed ≡ false =
    rw same at (sym (holds c.as_str.result.now) ∙ sym c.contains.ensures ∙ c.if-contains.false) in
    rw (c.in-Import.is, no) (rw c.get-import.ensures at put)) c.put_import.ensures
