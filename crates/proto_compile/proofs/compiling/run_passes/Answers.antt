use Rattle.std.proofs.Common.{arith, rules}
use Rattle.proto_compile.proofs.Making.{descs_for_each, written_of}
use Rattle.proto_compile.proofs.compiling.run_passes.Goals as goal

pub write_table-requires-clause-files : goal.write_table-requires-clause-files
write_table-requires-clause-files g c κs within = grind (arith, descs_for_each)

pub returns-in_err-table-clause-first : goal.returns-in_err-table-clause-first
returns-in_err-table-clause-first g c =
    let sources = c.args.sources.now in
    let resolved = (rw c.deref.ensures.value at c.in_ok-analysis.ensures.resolved) sources c.in_ok-files.ensures.few
    c.in_ok-files.ensures.files in
    let lookup = c.in_ok-analysis.analysis.lookup in
    let fact = c.in_err-table.ensures.first sources lookup.links lookup.index (rw c.deref-2.ensures.value resolved) in
    search (rules, fact)

pub compilation_of-requires : goal.compilation_of-requires
compilation_of-requires g c = grind (arith, written_of)

pub returns : goal.returns
returns g c =
    let sources = c.args.sources.now in
    let resolved = (rw c.deref.ensures.value at c.in_ok-analysis.ensures.resolved) sources c.in_ok-files.ensures.few
    c.in_ok-files.ensures.files in
    let table = c.in_ok-table.ensures in
    let written = written_of resolved table.short c.deref-2.ensures.value table.names table.bytes in
    record {
      compiled = c.compilation_of.ensures.compiled sources written;
      first = c.compilation_of.ensures.first sources written;
    }
