use Rattle.std.proofs.Common.{◌≡◌, arith, map}
use Rattle.std.proofs.lemmas.Grind.{common_steps}
use Rattle.wire_format.specs.ProgramFields.{field_of}
use Rattle.wire_format.proofs.ReadingRows.{one_list}
use Rattle.proto_sets.proofs.files.name_in.Goals as goal

pub returns-in_err-fields-clause-malformed : goal.returns-in_err-fields-clause-malformed
returns-in_err-fields-clause-malformed c e name has =
    c.in_err-fields.ensures.malformed (grind (arith, common_steps, c.from_residual.ensures, e)) has.fields has.row

pub returns-clause-malformed : goal.returns-clause-malformed
returns-clause-malformed c e name has =
    let fields = map field_of c.in_ok-fields.fields.items in
    let same : has.fields ≡ fields = one_list _ has.fields fields has.row c.in_ok-fields.ensures.found in
    c.utf8-2.ensures.other e
    (rw (c.last_text.ensures, c.deref.ensures.value, ← same, ← has.is) has.utf8)
