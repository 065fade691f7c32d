use Rattle.proto_links.proofs.Unique.{one_bad, one_set_order}
use Rattle.proto_links.proofs.laws.links_are_unique.Goals as goal

pub returns-clause-order : goal.returns-clause-order
returns-clause-order c = one_set_order

pub returns-clause-bad : goal.returns-clause-bad
returns-clause-bad c = one_bad
