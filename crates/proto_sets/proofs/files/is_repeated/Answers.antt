use Rattle.std.proofs.Common.{◌+◌, arith}
use Rattle.proto_sets.specs.SetSteps.{file_of}
use Rattle.proto_sets.proofs.Sorting.{name_by}
use Rattle.proto_sets.proofs.files.is_repeated.Goals as goal

pub returns : goal.returns
returns c =
    let files = c.args.files.now in
    let at = c.args.at in
    grind (arith, name_by file_of files at, name_by file_of files (at + 1))
