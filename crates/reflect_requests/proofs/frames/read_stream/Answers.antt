use Rattle.std.proofs.Common.{◌≡◌, arith, map, length}
use Rattle.std.proofs.lemmas.List.{length-map}
use Rattle.std.proofs.lemmas.List.Elements.{All-push}
use Rattle.reflect_requests.specs.Frames.{IsAllowed}
use Rattle.reflect_requests.specs.ProgramFrames.{Reads, bytes_of}
use Rattle.reflect_requests.proofs.StreamRows.{longer, row_longer}
use Rattle.reflect_requests.proofs.frames.read_stream.Goals as goal

pub loop-messages-preserved : goal.loop-messages-preserved
loop-messages-preserved c =
    let old = c.loop-messages.messages.items in
    let m = c.in-Frame.message in
    let next = rw c.in-Frame.is at c.in_ok-message.ensures in
    let pushed = c.in_ok-push-in-Frame.ensures.items in
    let inv = c.loop-messages.invariant in
    record {
      row = rw pushed
          (row_longer c.args.body.now c.loop-messages.rest.now c.in-Frame.after.now old m inv.row next.0.row);
      allowed = rw (pushed, longer old m)
          (All-push (IsAllowed c.args.limits.now) (map bytes_of old) (bytes_of m) inv.allowed next.1);
      few = let room = next.0.room in let len = c.in_ok-push-in-Frame.ensures.len in omega arith;
      requests = rw pushed (All-push Reads old m inv.requests next.2);
    }

pub returns-in-End-clause-body : goal.returns-in-End-clause-body
returns-in-End-clause-body c =
    let old = c.loop-messages.messages.items in
    let next = rw c.in-End.is at c.in_ok-message.ensures in
    let inv = c.loop-messages.invariant in
    let count : length (map bytes_of old) ≡ length old = length-map old bytes_of in
    let same : c.len.result ≡ length (map bytes_of old) = omega (arith, c.len.ensures, count) in
    record {
      over = λ h. absurd (omega (arith, h));
      within = λ h. (
        c.loop-messages.rest.now,
        record {
          row = inv.row;
          allowed = inv.allowed;
          few = omega (arith, count, inv.few);
          longest = λ room. next.none (omega (arith, room, count, c.len.ensures));
        },
        cc (c.number-in-End.ensures, next.status_is, same),
      );
    }
