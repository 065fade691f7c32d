use Rattle.std.proofs.Common.{map, rules}
use Rattle.proto_compilation.specs.Parts.{declared_extension}
use Rattle.proto_sets.specs.SetSteps.{AreNamed, files_of}
use Rattle.proto_sets.specs.SetFaults.{IsLeastFault}
use Rattle.proto_sets.proofs.LeastFault.{no_memory}
use Rattle.proto_sets.proofs.Making.{heads_rise, names_among, read_by}
use Rattle.proto_sets.proofs.set.read_passes.Goals as goal

pub link_all-requires : goal.link_all-requires
link_all-requires c =
    let walked = rw c.deref.ensures.value at c.in_ok-found.ensures.walked in
    rw c.deref-2.ensures.value (heads_rise c.args.limits.now c.args.set.now (files_of c.in_ok-files.files.items) _ _ _
    c.in_ok-files.ensures.files walked)

pub index_all-requires : goal.index_all-requires
index_all-requires c =
    rw c.deref-3.ensures.value (names_among _ _ _ _ _ c.in_ok-found.ensures.walked)

pub returns-in_err-index-clause-first : goal.returns-in_err-index-clause-first
returns-in_err-index-clause-first c =
    let limits = c.args.limits.now in
    let set = c.args.set.now in
    let files = files_of c.in_ok-files.files.items in
    let walked = rw c.deref.ensures.value at c.in_ok-found.ensures.walked in
    let named : AreNamed limits set files walked.contents = record {
      says = record { by_name = c.in_ok-files.ensures.files; each = walked.each };
      short_names = rw walked.names_are at c.in_ok-found.ensures.short;
    } in
    let linked = rw c.deref-2.ensures.value at c.in_ok-links.ensures.linked in
    let fact = (rw c.deref-3.ensures.value at c.in_err-index.ensures.first) set files walked.contents named
    walked.heads_are walked.names_are linked.whole in
    search (rules, fact)

pub returns-in_err-tabled-clause-first : goal.returns-in_err-tabled-clause-first
returns-in_err-tabled-clause-first c =
    no_memory (IsLeastFault c.args.limits.now c.args.set.now) c.from_residual-in_err-tabled.result
    c.from_residual-in_err-tabled.ensures.1

pub compilation_of-requires : goal.compilation_of-requires
compilation_of-requires c =
    let limits = c.args.limits.now in
    let set = c.args.set.now in
    let files = files_of c.in_ok-files.files.items in
    let walked = rw c.deref.ensures.value at c.in_ok-found.ensures.walked in (
      set,
      read_by limits set files c.in_ok-table.table _ _ _ (map declared_extension c.in_ok-tabled.tabled.items)
          c.in_ok-links.links c.in_ok-index.index c.in_ok-files.ensures.files walked c.in_ok-found.ensures.short
          (rw c.deref-2.ensures.value at c.in_ok-links.ensures.linked)
          (rw c.deref-3.ensures.value at c.in_ok-index.ensures.indexed)
          (rw c.deref-4.ensures.value at c.in_ok-table.ensures)
          (rw c.deref-5.ensures.value at c.in_ok-tabled.ensures),
    )

pub returns-clause-read : goal.returns-clause-read
returns-clause-read c =
    let limits = c.args.limits.now in
    let set = c.args.set.now in
    let files = files_of c.in_ok-files.files.items in
    let walked = rw c.deref.ensures.value at c.in_ok-found.ensures.walked in
    rw c.compilation_of.ensures (read_by limits set files c.in_ok-table.table _ _ _
    (map declared_extension c.in_ok-tabled.tabled.items) c.in_ok-links.links c.in_ok-index.index
    c.in_ok-files.ensures.files walked c.in_ok-found.ensures.short
    (rw c.deref-2.ensures.value at c.in_ok-links.ensures.linked)
    (rw c.deref-3.ensures.value at c.in_ok-index.ensures.indexed)
    (rw c.deref-4.ensures.value at c.in_ok-table.ensures)
    (rw c.deref-5.ensures.value at c.in_ok-tabled.ensures))
