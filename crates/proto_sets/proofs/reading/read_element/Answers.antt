use Rattle.std.proofs.Common.{map, arith, refl}
use Rattle.std.proofs.lemmas.Grind.{common_steps}
use Rattle.wire_format.specs.ProgramFields.{field_of}
use Rattle.wire_format.specs.Reading.{IsRow}
use Rattle.wire_format.proofs.ReadingRows.{one_list}
use Rattle.proto_sets.proofs.Walked.{unreadable}
use Rattle.proto_sets.proofs.reading.read_element.Goals as goal

pub returns-in_err-fields-clause-malformed : goal.returns-in_err-fields-clause-malformed
returns-in_err-fields-clause-malformed c e readable =
    let is = rw c.in-Some.is at c.element_in.ensures in
    let bad = c.in_err-fields.ensures.malformed (grind (arith, common_steps, c.from_residual.ensures, e)) in
    unreadable c.args.holder c.args.field.now.number c.in-Delimited.bytes.now c.in-Some.element (grind (arith, is))
    (λ fields row utf8. bad fields row) (rw c.in-Delimited.is at readable)

pub returns-in_err-name-clause-malformed : goal.returns-in_err-name-clause-malformed
returns-in_err-name-clause-malformed c e readable =
    let is = rw c.in-Some.is at c.element_in.ensures in
    let row : IsRow c.in-Delimited.bytes.now (map field_of c.in_ok-fields.fields.items) = c.in_ok-fields.ensures.found in
    let bad = c.in_err-name.ensures.other (grind (arith, common_steps, c.from_residual-in_err-name.ensures, e)) in
    unreadable c.args.holder c.args.field.now.number c.in-Delimited.bytes.now c.in-Some.element (grind (arith, is))
    (λ fields other utf8. bad (rw (c.last_text.ensures, c.deref.ensures.value)
    (rw (one_list _ fields (map field_of c.in_ok-fields.fields.items) other row) at utf8)))
    (rw c.in-Delimited.is at readable)

pub returns-clause-found : goal.returns-clause-found
returns-clause-found c =
    let is = rw c.in-Some.is at c.element_in.ensures in
    let same = rw (c.last_text.ensures, c.deref.ensures.value) at c.in_ok-name.ensures.utf8 in (
      rw c.in-Delimited.is (record {
        text = c.in-Delimited.bytes.now;
        held = (grind (arith, is), refl);
        row = c.in_ok-fields.ensures.found;
        utf8 = same.1;
      }),
      same.0,
    )
