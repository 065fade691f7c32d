use Rattle.std.proofs.Common.{append-nil, sym, map, arith, Some, None}
use Rattle.std.proofs.lemmas.Grind.{common_steps}
use Rattle.std.proofs.lemmas.Bool.{eqb-false}
use Rattle.std.proofs.lemmas.List.{map_push}
use Rattle.wire_format.specs.ProgramFields.{field_of}
use Rattle.wire_format.proofs.ReadingRows.{kept_first, kept_more, row_stop, kept_all, field_shorter}
use Rattle.wire_format.proofs.reading.read_fields.Goals as goal

pub loop-rest-init : goal.loop-rest-init
loop-rest-init c = kept_first _ _ (grind arith) (λ i. omega (arith, c.type_inv.bytes i))

pub returns-in_err-field-clause-malformed : goal.returns-in_err-field-clause-malformed
returns-in_err-field-clause-malformed c e fs row =
    let some = eqb-false _ _ (sym c.loop-rest-test.ensures) in
    row_stop _ _ (omega (arith, some)) (grind (arith, common_steps)) (c.loop-rest.invariant.back fs row).1

pub loop-rest-smaller-in_ok-push : goal.loop-rest-smaller-in_ok-push
loop-rest-smaller-in_ok-push c = grind (arith, common_steps, field_shorter)

pub loop-rest-smaller : goal.loop-rest-smaller
loop-rest-smaller c = grind (arith, common_steps, field_shorter)

pub loop-rest-preserved-in_ok-push : goal.loop-rest-preserved-in_ok-push
loop-rest-preserved-in_ok-push c = kept_more _ _ _ _ _ (Some (field_of c.in-Some.field))
    (grind (arith, common_steps))
    (grind (arith, common_steps, map_push)) c.loop-rest.invariant

pub loop-rest-preserved : goal.loop-rest-preserved
loop-rest-preserved c = kept_more _ _ _ _ _ None
    (grind (arith, common_steps))
    (sym (append-nil (map field_of c.loop-rest.fields.items))) c.loop-rest.invariant

pub returns-clause-found : goal.returns-clause-found
returns-clause-found c =
    kept_all _ _ _ c.loop-rest.invariant (grind (arith, common_steps))
