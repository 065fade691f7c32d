use Rattle.std.proofs.Common.{rules}
use Rattle.proto_compile.proofs.analysing.lookup_of.Goals as goal

pub returns-in_err-links-clause-first : goal.returns-in_err-links-clause-first
returns-in_err-links-clause-first g c sources files described =
    let refused = c.links_and_index-links.ensures.unlinked sources files described in
    search (rules, refused)

pub returns-in_err-index-clause-first : goal.returns-in_err-index-clause-first
returns-in_err-index-clause-first g c sources files described =
    let linked = rw c.in_ok-links.was at c.links_and_index-links.ensures.linked in
    let refused = c.links_and_index-links.ensures.unindexed sources files linked.whole described in
    search (rules, refused)
