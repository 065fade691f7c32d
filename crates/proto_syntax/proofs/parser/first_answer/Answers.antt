use Rattle.std.proofs.Common.{arith, true, false}
use Rattle.proto_syntax.proofs.Faults.{stopped_at, tree_found}
use Rattle.proto_syntax.proofs.parser.first_answer.Goals as goal

pub overflow_sub-index : goal.overflow_sub-index
overflow_sub-index c =
    grind (arith, stopped_at c.args.depth c.as_slice-items.result.now c.file.new.self.rest.now true)

pub overflow_sub-index-in-Err-Unexpected : goal.overflow_sub-index-in-Err-Unexpected
overflow_sub-index-in-Err-Unexpected c =
    grind (arith, stopped_at c.args.depth c.as_slice-items.result.now c.file.new.self.rest.now false)

pub returns-in-Ok : goal.returns-in-Ok
returns-in-Ok c = grind (arith, tree_found)

pub returns-in-Err-TooDeep : goal.returns-in-Err-TooDeep
returns-in-Err-TooDeep c =
    grind (arith, stopped_at c.args.depth c.as_slice-items.result.now c.file.new.self.rest.now true)

pub returns-in-Err-Unexpected : goal.returns-in-Err-Unexpected
returns-in-Err-Unexpected c =
    grind (arith, stopped_at c.args.depth c.as_slice-items.result.now c.file.new.self.rest.now false)
