use Rattle.proto_names.proofs.Common.{arith}
use Rattle.proto_names.proofs.Ordered.{ends_differ, ends_itself, ends_longer, ends_more, ends_shorter}
use Rattle.proto_names.proofs.name_bytes.compare_last.Goals as goal

pub returns-then-one-other-clause-alike : goal.returns-then-one-other-clause-alike
returns-then-one-other-clause-alike c = grind (arith, ends_more)

pub returns-else-one-other-clause-order : goal.returns-else-one-other-clause-order
returns-else-one-other-clause-order c = grind (arith, ends_differ)

pub returns-in-Some-None-clause-order : goal.returns-in-Some-None-clause-order
returns-in-Some-None-clause-order c = grind (arith, ends_longer)

pub returns-in-None-Some-clause-order : goal.returns-in-None-Some-clause-order
returns-in-None-Some-clause-order c = grind (arith, ends_shorter)

pub returns-in-None-None-clause-order : goal.returns-in-None-None-clause-order
returns-in-None-None-clause-order c = grind (arith, ends_itself)
