use Rattle.std.proofs.Common.{arith}
use Rattle.proto_syntax.proofs.Faults.{only_tree}
use Rattle.proto_syntax.proofs.Unique.{of_every_fault, fault_within}
use Rattle.proto_syntax.proofs.parser.parse.Goals as goal

pub returns-clause-every_tree : goal.returns-clause-every_tree
returns-clause-every_tree c x i = grind (arith, only_tree)

pub returns-clause-every_fault : goal.returns-clause-every_fault
returns-clause-every_fault c = rw (← c.get.ensures.value)
    (of_every_fault c.get.result c.args.tokens.now c.first_answer.result c.first_answer.ensures)

pub returns-clause-within : goal.returns-clause-within
returns-clause-within c n within = fault_within n c.get.result c.args.tokens.now _ within c.first_answer.ensures
