use Rattle.std.proofs.Common.{◌≡◌, ◌∙◌, ap, sym, Err}
use Rattle.proto_links.proofs.NameRows.{name_is}
use Rattle.proto_sets.specs.SetFaults.{IsLeastFault, name_at, of_file}
use Rattle.proto_sets.specs.SetSteps.{import_kind}
use Rattle.proto_sets.proofs.LeastFault.{told}
use Rattle.proto_sets.proofs.OneSet.{head_name}
use Rattle.proto_sets.proofs.PassLeast.{bad_inside, import_least}
use Rattle.proto_sets.proofs.passes.link_all.Goals as goal

pub returns-in-Err-At-clause-first : goal.returns-in-Err-At-clause-first
returns-in-Err-At-clause-first c limits set files contents are same =
    let heads = c.args.heads.now in
    let at = c.in-Err-At.at in
    let what = c.in-Err-At.kind in
    let bad = c.in-Err-At.ensures.bad at c.in-Err-At.field-0-1 what (ap Err c.in-Err-At.field-0-is) in
    let below = bad_inside heads at c.in-Err-At.field-0-1 what bad.among in
    let name : c.as_str.result.now ≡ name_at files at =
    c.as_str.ensures ∙ sym (name_is heads at c.index-heads-at.result below) ∙ head_name are.says heads same at in
    told (IsLeastFault limits set) (of_file (import_kind what) (name_at files at)) c.refusal_of_file.result
    (rw (c.import_kind.ensures, name) at c.refusal_of_file.ensures)
    (import_least limits set are at c.in-Err-At.field-0-1 what (rw same at bad))
