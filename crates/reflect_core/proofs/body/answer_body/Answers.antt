use Rattle.reflect_core.proofs.Common.{map, All-map, count_of, bytes_of, root, IsRootWithin, asked_of}
use Rattle.std.proofs.lemmas.Result.{IfOk-weaker}
use Rattle.reflect_core.proofs.AnsweringBody.{replyable, allowed_of}
use Rattle.reflect_core.proofs.body.answer_body.Goals as goal

pub carried-requires-after_bounds : goal.carried-requires-after_bounds
carried-requires-after_bounds g c κs within =
    let inside = IsRootWithin (count_of c.args.compiled.now.links) in
    rw (c.new-reach.ensures, c.deref-3.ensures.value, c.in_ok-roots.ensures, c.deref-2.ensures.value)
    (All-map inside root _ (All-map (λ a. inside (root a)) asked_of _ c.in_ok-asked.ensures.within))

pub response_to-requires : goal.response_to-requires
response_to-requires g c =
    let compiled = c.args.compiled.now in
    let reads = rw c.limits.ensures at c.in_ok-stream.ensures.body in
    let asked = rw c.deref.ensures.value at c.in_ok-asked.ensures.asked in
    let lists = rw (c.new-reach.ensures, c.deref-3.ensures.value, c.in_ok-roots.ensures, c.deref-2.ensures.value)
    at c.in_ok-carried.ensures in
    let listed = rw c.deref-4.ensures.value at c.in_ok-services.ensures in
    rw (c.as_slice.ensures.value, c.deref-5.ensures.value, c.deref-6.ensures.value)
    (replyable compiled c.is_sound.ensures (map bytes_of c.in_ok-stream.stream.messages.items) _ _
    c.in_ok-services.services.items c.args.mode (allowed_of compiled c.args.body.now _ _ reads) asked
    c.in_ok-asked.ensures.within lists listed)

pub returns : goal.returns
returns g c =
    let lists = rw (c.new-reach.ensures, c.deref-3.ensures.value, c.in_ok-roots.ensures, c.deref-2.ensures.value)
    at c.in_ok-carried.ensures in
    IfOk-weaker c.response_to.result _ _ (λ bytes is. record {
      messages = map bytes_of c.in_ok-stream.stream.messages.items;
      status = c.in_ok-stream.stream.status;
      asked = map asked_of c.in_ok-asked.asked.items;
      read = rw c.limits.ensures at c.in_ok-stream.ensures.body;
      requests = rw c.deref.ensures.value at c.in_ok-asked.ensures.asked;
      spelled = rw (c.deref-5.ensures.value, c.deref-6.ensures.value, lists) at is;
    }) c.response_to.ensures
