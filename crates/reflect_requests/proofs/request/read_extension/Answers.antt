use Rattle.std.proofs.Common.{map, arith}
use Rattle.std.proofs.lemmas.Grind.{common_steps}
use Rattle.wire_format.specs.Reading.{IsRow}
use Rattle.wire_format.specs.ProgramFields.{field_of}
use Rattle.reflect_requests.specs.Request.{IsContainingTypeUtf8}
use Rattle.reflect_requests.proofs.RequestRows.{left_here, all_of_row}
use Rattle.reflect_requests.proofs.request.read_extension.Goals as goal

pub returns-in_err-fields-clause-malformed : goal.returns-in_err-fields-clause-malformed
returns-in_err-fields-clause-malformed c e request =
    c.in_err-fields.ensures.malformed (grind (arith, common_steps, c.from_residual.ensures, e))
    request.fields request.row

pub returns-in_err-text-clause-malformed : goal.returns-in_err-text-clause-malformed
returns-in_err-text-clause-malformed c e request =
    let items = c.deref-field-items.result.now in
    let row : IsRow c.args.message.now (map field_of items) =
    rw c.deref-field-items.ensures.value c.in_ok-fields.ensures.found in
    let whole = all_of_row IsContainingTypeUtf8 c.args.message.now (map field_of items) request.fields row request.row
    request.known in
    c.in_err-text.ensures.other
    (left_here IsContainingTypeUtf8 field_of (map field_of items) items c.loop-field.field-index _
    c.loop-field-test.true c.loop-field.invariant.decided.known whole)
