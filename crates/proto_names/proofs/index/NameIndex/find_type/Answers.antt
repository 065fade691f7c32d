use Rattle.proto_names.proofs.Common.{inl, lit<, strip_prefix_char, SeenBy}
use Rattle.proto_names.specs.Around.{IsNoScope}
use Rattle.proto_names.proofs.Listing.{found_first, found_nowhere}
use Rattle.proto_names.proofs.Unique.{absolute_nowhere}
use Rattle.proto_names.proofs.index.NameIndex.find_type.Goals as goal

pub returns-in_err-kind-in-Some : goal.returns-in_err-kind-in-Some
returns-in_err-kind-in-Some c scope are =
    let is = rw c.in-Some.is
    at (strip_prefix_char 46 c.args.spelled.text.now c.strip_prefix.result c.strip_prefix.ensures.cases (lit< tt)) in
    rw c.from_residual.ensures (absolute_nowhere c.args.self.now.occurrences (SeenBy c.args.links.now c.args.file)
    scope c.args.spelled.text.now c.in-Some.full.now is
    (rw (c.top.ensures, c.new.ensures) at c.in_err-kind-in-Some.ensures))

pub returns-in_ok-kind-in-Some : goal.returns-in_ok-kind-in-Some
returns-in_ok-kind-in-Some c scope are =
    let is = rw c.in-Some.is
    at (strip_prefix_char 46 c.args.spelled.text.now c.strip_prefix.result c.strip_prefix.ensures.cases (lit< tt)) in
    record { means = inl is; type = rw (c.top.ensures, c.new.ensures) at c.in_ok-kind-in-Some.ensures }

pub returns-in-Here : goal.returns-in-Here
returns-in-Here c scope are =
    let spelled = c.args.spelled.text.now in
    let relative = rw c.in-None.is
    at (strip_prefix_char 46 spelled c.strip_prefix.result c.strip_prefix.ensures.cases (lit< tt)) in
    found_first c.args.self.now.occurrences (SeenBy c.args.links.now c.args.file) spelled relative scope IsNoScope
    c.args.scopes.now c.in-Here.found are c.in-Here.ensures

pub returns-in-Outside : goal.returns-in-Outside
returns-in-Outside c scope are =
    let spelled = c.args.spelled.text.now in
    let relative = rw c.in-None.is
    at (strip_prefix_char 46 spelled c.strip_prefix.result c.strip_prefix.ensures.cases (lit< tt)) in
    found_nowhere c.args.self.now.occurrences (SeenBy c.args.links.now c.args.file) spelled relative scope
    c.args.scopes.now are c.in-Outside.ensures
