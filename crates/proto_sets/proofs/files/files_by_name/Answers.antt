use Rattle.std.proofs.Common.{◌≡◌, ◌<◌, ◌∙◌, sym, ap, arith, length}
use Rattle.std.proofs.lemmas.List.{length-map}
use Rattle.proto_sets.specs.SetFaults.{IsLeastFault, name_at, of_file}
use Rattle.proto_sets.specs.SetSteps.{file_of, files_of}
use Rattle.proto_sets.specs.declared.fault.SetKind.TheVariants as kind
use Rattle.proto_sets.proofs.FileLeast.{repeated_least}
use Rattle.proto_sets.proofs.LeastFault.{told}
use Rattle.proto_sets.proofs.Sorting.{name_by, strictly}
use Rattle.proto_sets.proofs.files.files_by_name.Goals as goal

pub returns-in-Some-clause-first : goal.returns-in-Some-clause-first
returns-in-Some-clause-first c =
    let limits = c.args.limits.now in
    let set = c.args.set.now in
    let items = c.in_ok-files.files.items in
    let at = c.in-Some.at in
    let first = rw c.deref.ensures.value at c.in-Some.ensures in
    let below : at < length items = omega (arith, first.below, length-map items file_of) in
    let name : name_at (files_of items) at ≡ c.index.result.now.name.now =
    name_by file_of items at c.index.result.now below ∙ ap (λ f. f.name.now) (sym c.index.ensures) in
    told (IsLeastFault limits set) (of_file kind.FileNameTwice c.index.result.now.name.now) c.refusal_of_file.result
    c.refusal_of_file.ensures
    (rw (← name) (repeated_least limits set (files_of items) at c.in_ok-files_in.ensures.files c.in_ok-files.ensures first))

pub returns-clause-files : goal.returns-clause-files
returns-clause-files c =
    let items = c.in_ok-files.files.items in
    let none = rw c.deref.ensures.value at c.in-None.ensures in
    record {
      placed = files_of c.in_ok-files_in.field-0.items;
      are = c.in_ok-files_in.ensures.files;
      all = c.in_ok-files.ensures.all;
      rises = strictly _ (files_of items) c.in_ok-files.ensures
          (λ k h. none k (omega (arith, h, length-map items file_of)));
    }
