use Rattle.std.proofs.Common.{◌≡◌, ℕ}
use Rattle.futures.specs.Task.{Keeps}
use Rattle.http_connection.specs.Connections.{CanServe, HaveCome}
use Rattle.http_connection.proofs.connections.ConnectionsFuture.poll.Given as goal

abbrev pub invariant-loop : goal.invariant-loop
invariant-loop g l = record {
  can_serve : CanServe g.S.Stream.can_poll g.S.Stream.yields g.F.Future.can_poll l.self;
  total : l.self.total ≡ l.initial.self.total;
  kept : Keeps l.initial.cx l.cx;
  come : (count : ℕ) → HaveCome g.S.Stream.yields l.self count → HaveCome g.S.Stream.yields l.initial.self count;
}
