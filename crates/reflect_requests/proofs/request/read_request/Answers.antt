use Rattle.std.proofs.Common.{map, arith}
use Rattle.std.proofs.lemmas.Grind.{common_steps}
use Rattle.wire_format.specs.Reading.{IsRow}
use Rattle.wire_format.specs.ProgramFields.{field_of}
use Rattle.reflect_requests.specs.Request.{IsWellFormed}
use Rattle.reflect_requests.proofs.RequestRows.{left_here, all_of_row, decided_more, decided_all}
use Rattle.std.proofs.lemmas.List.{drop_all}
use Rattle.reflect_requests.specs.ProgramFrames.{ask_of}
use Rattle.reflect_requests.proofs.request.read_request.Goals as goal
use Rattle.reflect_requests.proofs.request.read_request.Goals.{in-Host, in-Member, in-Unknown}

pub returns-in_err-fields-clause-malformed : goal.returns-in_err-fields-clause-malformed
returns-in_err-fields-clause-malformed c e host asked request =
    c.in_err-fields.ensures.malformed (grind (arith, common_steps, c.from_residual.ensures, e))
    request.fields request.row

pub returns-in_err-text-clause-malformed : goal.returns-in_err-text-clause-malformed
returns-in_err-text-clause-malformed c e host asked request =
    let items = c.deref-field-items.result.now in
    let row : IsRow c.args.message.now (map field_of items) =
    rw c.deref-field-items.ensures.value c.in_ok-fields.ensures.found in
    let whole = all_of_row IsWellFormed c.args.message.now (map field_of items) request.fields row request.row
    request.known in
    let known = left_here IsWellFormed field_of
    (map field_of items) items c.loop-field.field-index _ c.loop-field-test.true
    c.loop-field.invariant.decided.known whole in
    c.in_err-text.ensures.malformed (grind (arith, common_steps, c.from_residual-in_err-text.ensures, e)) known

pub loop-field-preserved : goal.loop-field-preserved
loop-field-preserved c =
    let items = c.deref-field-items.result.now in
    let more = decided_more field_of (map field_of items) items c.loop-field.field-index _ c.loop-field.host.now
    (ask_of c.loop-field.ask) c.in_ok-text.field-0 c.loop-field-test.true c.loop-field.invariant.decided
    c.in_ok-text.ensures.says in
    elim c.match-branch-3.branch [
      | in-Host w ↦ record {
        decided = rw (w.host-is, w.ask-is) (rw w.in-Host.is at more);
        utf8 = grind (arith, common_steps);
      }
      | in-Member w ↦ record {
        decided = rw (w.host-is, w.ask-is) (rw w.in-Member.is at more);
        utf8 = grind (arith, common_steps);
      }
      | in-Unknown w ↦ record {
        decided = rw (w.host-is, w.ask-is) (rw w.in-Unknown.is at more);
        utf8 = grind (arith, common_steps);
      }
    ]

pub returns-clause-found : goal.returns-clause-found
returns-clause-found c =
    let items = c.deref-field-items.result.now in
    let row : IsRow c.args.message.now (map field_of items) =
    rw c.deref-field-items.ensures.value c.in_ok-fields.ensures.found in
    decided_all c.args.message.now (map field_of items) c.loop-field.host.now (ask_of c.loop-field.ask) row
    (rw (drop_all c.loop-field.field-index items c.loop-field-test.false) at c.loop-field.invariant.decided)
