use Rattle.std.proofs.Common.{◌≡◌, ◌∙◌, ap, sym, Err, length}
use Rattle.proto_links.proofs.NameRows.{name_is}
use Rattle.proto_sets.specs.SetFaults.{IsLeastFault, name_at, of_file, of_set}
use Rattle.proto_sets.specs.declared.fault.SetKind.TheVariants as kind
use Rattle.proto_sets.proofs.LeastFault.{told}
use Rattle.proto_sets.proofs.OneSet.{head_name}
use Rattle.proto_sets.proofs.PassLeast.{many_names_least, name_twice_least, repeated_inside}
use Rattle.proto_sets.proofs.passes.index_all.Goals as goal

pub returns-in-Err-TooMany-clause-first : goal.returns-in-Err-TooMany-clause-first
returns-in-Err-TooMany-clause-first c set files contents are same names right =
    let limits = c.args.limits.now in
    let many = c.in-Err-TooMany.ensures.many (ap Err c.in-Err-TooMany.field-0-is) in
    told (IsLeastFault limits set) (of_set kind.TooManyNames) c.refusal.result c.refusal.ensures
    (many_names_least limits set are (rw same at right) (rw names at many))

pub returns-in-Err-At-clause-first : goal.returns-in-Err-At-clause-first
returns-in-Err-At-clause-first c set files contents are same names right =
    let limits = c.args.limits.now in
    let heads = c.args.heads.now in
    let at = c.in-Err-At.at in
    let place = c.in-Err-At.field-0-1 in
    let twice = c.in-Err-At.ensures.twice at place (ap Err c.in-Err-At.field-0-is) in
    let below = repeated_inside limits c.args.names at place (length heads) c.requires twice in
    let name : c.as_str.result.now ≡ name_at files at =
    c.as_str.ensures ∙ sym (name_is heads at c.index-heads-at.result below) ∙ head_name are.says heads same at in
    told (IsLeastFault limits set) (of_file kind.NameTwice (name_at files at)) c.refusal_of_file.result
    (rw name at c.refusal_of_file.ensures)
    (name_twice_least limits set are (rw same at right) at place (rw names at twice))
