use Rattle.std.proofs.Common.{ap, arith, length, rules}
use Rattle.std.proofs.lemmas.List.{length-map}
use Rattle.proto_sets.specs.SetFaults.{IsLeastFault}
use Rattle.proto_sets.specs.SetSteps.{IsFirstLong, IsFirstSilent, file_of, files_of}
use Rattle.proto_sets.specs.Sets.{FileSays, SetSays, depth_of, names_from}
use Rattle.proto_sets.proofs.FileByFile.{zip_length}
use Rattle.proto_sets.proofs.FileLeast.{long_name_least, silent_least}
use Rattle.proto_sets.proofs.LeastFault.{tells_more}
use Rattle.proto_sets.proofs.NamesFrom.{names_inside}
use Rattle.proto_sets.proofs.contents.walk_files.Goals as goal

pub returns-in_err-heads-clause-first : goal.returns-in_err-heads-clause-first
returns-in_err-heads-clause-first c set is =
    let limits = c.args.limits.now in
    let files = files_of c.args.files.now in
    let silent = rw c.get.ensures.value at c.in_err-heads.ensures.silent in
    let fact = tells_more (IsFirstSilent (depth_of limits) files) (IsLeastFault limits set)
    (λ x first. silent_least limits set x is first) c.in_err-heads.field-0.0 silent in
    search (rules, fact)

pub check_names-requires : goal.check_names-requires
check_names-requires c k d h =
    let walked = c.in_ok-heads.ensures.walked in
    let files = files_of c.args.files.now in
    let size = zip_length (FileSays _) files walked.contents walked.each in
    let inside = (names_inside 0 walked.contents k d (omega (arith, h, ap length walked.names_are))).1 in
    rw walked.names_are (omega (arith, inside, size, length-map c.args.files.now file_of))

pub returns-in_err-check_names-clause-first : goal.returns-in_err-check_names-clause-first
returns-in_err-check_names-clause-first c set is =
    let limits = c.args.limits.now in
    let files = files_of c.args.files.now in
    let walked = c.in_ok-heads.ensures.walked in
    let names = names_from 0 walked.contents in
    let says : SetSays limits set files walked.contents =
    record { by_name = is; each = rw c.get.ensures.value at walked.each } in
    let long = rw walked.names_are at c.in_err-check_names.ensures.long in
    let fact = tells_more (IsFirstLong limits names files) (IsLeastFault limits set)
    (λ x first. long_name_least limits set x says first) c.in_err-check_names.field-0.0 long in
    search (rules, fact)
