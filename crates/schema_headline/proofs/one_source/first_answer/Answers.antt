use Rattle.std.proofs.Common.{◌∙◌, rules}
use Rattle.schema_headline.proofs.Describing.{described, is_linked}
use Rattle.schema_headline.proofs.one_source.first_answer.Goals as goal

pub bytes_at-bytes-requires : goal.bytes_at-bytes-requires
bytes_at-bytes-requires g c = is_linked c.args.limits.now c.args.source c.in_ok-compiled.compiled
    c.in_ok-compiled.ensures.compiled

pub returns-clause-described : goal.returns-clause-described
returns-clause-described g c =
    described c.args.limits.now c.args.source c.in_ok-compiled.compiled c.in_ok-from_slice.field-0.items
    c.in_ok-compiled.ensures.compiled
    (c.in_ok-from_slice.ensures.items ∙ c.bytes_at-bytes.ensures)

pub returns-in_err-from_slice-clause-first : goal.returns-in_err-from_slice-clause-first
returns-in_err-from_slice-clause-first g c = let fact = c.from_residual-in_err-from_slice.ensures in
    search (rules, fact)

pub returns-in_err-from_slice-clause-placed : goal.returns-in_err-from_slice-clause-placed
returns-in_err-from_slice-clause-placed g c = let fact = c.from_residual-in_err-from_slice.ensures in
    search (rules, fact)
