use Rattle.proto_compile.proofs.Common.{arith, ◌∙◌, rules, length-map}
use Rattle.proto_compile.proofs.compiling.write_table.Goals as goal

pub table_of-requires-clause-length : goal.table_of-requires-clause-length
table_of-requires-clause-length g c = grind (arith, length-map)

pub returns-clause-bytes : goal.returns-clause-bytes
returns-clause-bytes g c = c.in_ok-table.ensures.bytes ∙ c.in_ok-written.ensures.bytes

pub returns-in_err-written-clause-first : goal.returns-in_err-written-clause-first
returns-in_err-written-clause-first g c sources links index resolved =
    let refused = c.in_err-written.ensures.first sources links index resolved in
    search (rules, refused)
