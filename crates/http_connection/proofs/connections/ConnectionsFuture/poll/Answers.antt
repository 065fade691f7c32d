use Rattle.std.proofs.Common.{◌∙◌, refl, rules}
use Rattle.http_connection.proofs.Coming.{come_later, ends_as_before, none_came, one_came, still_come}
use Rattle.http_connection.proofs.connections.ConnectionsFuture.poll.Goals as goal

pub returns-in-loop-clause-same : goal.returns-in-loop-clause-same
returns-in-loop-clause-same g c =
    let yields = g.S.Stream.yields in
    let was = c.poll_running.new.self in
    let now = record was { arrivals = c.poll_next.new.self } in
    let same = c.poll_running.ensures.same in
    ends_as_before yields c.args.self.now now (same.total ∙ c.loop.invariant.total) (λ count h.
    c.loop.invariant.come count (still_come yields c.loop.self was count
    (come_later yields was now count h (search rules) refl) same))

pub returns-in-Some-Err-clause-same : goal.returns-in-Some-Err-clause-same
returns-in-Some-Err-clause-same g c =
    let yields = g.S.Stream.yields in
    let was = c.poll_running.new.self in
    let now = record was { arrivals = c.poll_next.new.self; is_refused = _ } in
    let same = c.poll_running.ensures.same in
    ends_as_before yields c.args.self.now now (same.total ∙ c.loop.invariant.total) (λ count h.
    c.loop.invariant.come count (still_come yields c.loop.self was count
    (none_came yields was now count h c.in-Some-Err.trouble (search rules) (search rules) refl) same))

pub loop-preserved : goal.loop-preserved
loop-preserved g c =
    let yields = g.S.Stream.yields in
    let was = c.poll_running.new.self in
    let same = c.poll_running.ensures.same in
    let begun = c.begin.ensures.counted in
    record {
      can_serve = c.begin.ensures.again;
      total = begun.total ∙ same.total ∙ c.loop.invariant.total;
      kept = λ fact holds.
          c.poll_next.ensures.kept fact (c.poll_running.ensures.kept fact (c.loop.invariant.kept fact holds));
      come = λ count h. c.loop.invariant.come count (still_come yields c.loop.self was count
          (one_came yields was c.begin.new.self count h c.in-Some-Ok.connection (search rules)
          (rw begun.arrivals (search rules)) begun.begun) same);
    }
