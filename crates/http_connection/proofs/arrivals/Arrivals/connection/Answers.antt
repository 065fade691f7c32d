use Rattle.http_connection.proofs.arrivals.Arrivals.connection.Goals as goal

pub returns : goal.returns
returns g c = rw c.new-2.ensures (rw c.new-limited.ensures c.serve_connection.ensures.runs)
