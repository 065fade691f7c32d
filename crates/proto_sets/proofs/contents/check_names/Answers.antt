use Rattle.std.proofs.Common.{◌≡◌, ◌<◌, sym, ap, arith, length}
use Rattle.std.proofs.lemmas.Option.{get_or_from_slice_get, slice_get-get_or}
use Rattle.proto_names.specs.Runs.{at, blank}
use Rattle.proto_names.specs.declared.entry.Location.{Location}
use Rattle.proto_sets.specs.SetFaults.{of_file}
use Rattle.proto_sets.specs.SetSteps.{IsFirstLong, file_of, files_of}
use Rattle.proto_sets.specs.declared.fault.SetKind.TheVariants as kind
use Rattle.proto_sets.proofs.LeastFault.{told}
use Rattle.proto_sets.proofs.Sorting.{name_by}
use Rattle.proto_sets.proofs.contents.check_names.Goals as goal

pub returns-in-Some-clause-long : goal.returns-in-Some-clause-long
returns-in-Some-clause-long c =
    let names = c.args.names.now in
    let files = c.args.files.now in
    let (k, first, stands) = c.in-Some.ensures in
    let o = at names k in
    let below : o.file < length files = c.requires k blank first.below in
    let file : c.in-Some.location.file ≡ o.file = ap (λ (l : Location). l.file) stands in
    told (IsFirstLong c.args.limits.now names (files_of files)) (of_file kind.NameTooLong _) c.refusal_of_file.result
    c.refusal_of_file.ensures (record {
      at = k;
      o = o;
      stands = slice_get-get_or names k blank first.below;
      long = omega (arith, first.long, c.get.ensures.value);
      before = λ j p less there. omega (
        arith,
        first.before j less,
        ap (λ q. length q.name)
            (get_or_from_slice_get names j p blank there),
        c.get.ensures.value,
      );
      is = ap (of_file kind.NameTooLong) (rw file (sym (name_by file_of files o.file _ below)));
    })
