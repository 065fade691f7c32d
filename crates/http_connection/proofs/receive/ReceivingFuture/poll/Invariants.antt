use Rattle.std.proofs.Common.{◌≡◌, List, ℕ}
use Rattle.futures.specs.Task.{Keeps}
use Rattle.http_connection.specs.Receiving.{FillsUp}
use Rattle.http_connection.proofs.receive.ReceivingFuture.poll.Given as goal

abbrev pub invariant-loop : goal.invariant-loop
invariant-loop g l =
    (l.self.head ≡ l.initial.self.head) × Keeps l.initial.cx l.cx
    × ((all : List ℕ) → FillsUp l.self.most l.self.incoming l.self.body.items all
    → FillsUp l.initial.self.most l.initial.self.incoming l.initial.self.body.items all)
