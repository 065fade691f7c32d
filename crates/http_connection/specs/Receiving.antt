-- Words on a request that comes in.
use Rattle.std.specs.Prelude.{◌≡◌, ℕ, ◌-◌, ◌≤◌, ◌⊎◌, ◌++◌, List, length, map, take, Some, None, Ok}
use Rattle.futures.specs.Runs.{Begins}
use Rattle.http.specs.Request.{body_of, head_of}
use Rattle.http_body.specs.declared.frame.Frame.{Frame}
use Rattle.http_body.specs.Frame.{bytes_in, joined_data}
use Rattle.hyper.specs.Incoming.{IncomingYields}
use Rattle.hyper.specs.declared.body.incoming.Incoming.{Incoming}
use Rattle.http_connection.specs.Messages.{WholeRequest}
use Rattle.http_connection.specs.declared.receive.Receiving.{Receiving}

-- bytes with these behind them, up to so many
abbrev pub filled : ℕ → List ℕ → List ℕ → List ℕ
filled most bytes more = bytes ++ take (most - length bytes) more

-- the frames that came from a body fill these bytes up: they are all, or there are as many bytes as may be
pub record FillsUp {I : Type 0} (most : ℕ) (incoming : Incoming I) (bytes all : List ℕ) : Type 0 where
  pub frames : List (Frame (List ℕ))
  pub joined : all ≡ filled most bytes (joined_data frames)
  pub came : IncomingYields incoming (map Ok frames) None
      ⊎ ((most ≤ length all) × Begins (IncomingYields incoming) (map Ok frames))

-- what a frame has of the body was added
abbrev pub Takes : {I : Type 0} → Receiving I → Frame (List ℕ) → Receiving I → Type 0
Takes old frame new =
    (new.head ≡ old.head) × (new.most ≡ old.most) × (new.body.items ≡ filled old.most old.body.items (bytes_in frame.kind))

-- it may become this request
abbrev pub MayReceive : {I : Type 0} → Receiving I → WholeRequest → Type 0
MayReceive a received =
    (a.head ≡ Some (head_of received)) × FillsUp a.most a.incoming a.body.items (body_of received).items
