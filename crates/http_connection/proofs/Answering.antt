-- What is answered, of what was received and given.
use Rattle.std.proofs.Common.{◌≡◌, ℕ, List, Result, Ok, Err, Option, IfOk, IsSomeAnd, refl, subst}
use Rattle.std.specs.Arc.{arc_value}
use Rattle.std.specs.Fn.{FnReturns, FnReturnsAt, Shared}
use Rattle.std.specs.Result.{result_ok}
use Rattle.std.specs.declared.alloc.Global.{Global}
use Rattle.std.specs.declared.sync.Arc.{Arc}
use denote.Ref.{Bor}
use Rattle.http.specs.declared.response.Response.{Response}
use Rattle.http_body_util.specs.declared.full.Full.{Full}
use Rattle.tokio.specs.declared.net.stream.TcpStream.{TcpStream}
use Rattle.http_connection.specs.Exchange.{MayAnswer}
use Rattle.http_connection.specs.Messages.{WholeRequest, WholeResponse}
use Rattle.http_connection.specs.Receiving.{MayReceive}
use Rattle.http_connection.specs.declared.fault.ConnectionFault.{ConnectionFault}
use Rattle.http_connection.specs.declared.noted.Notes.{Notes}
use Rattle.http_connection.specs.declared.receive.Receiving.{Receiving}

-- what a call at a reference returned, where that is `Ok`
pub at_ok : {F T A E : Type 0} (g : Shared F (Bor T × Unit {0}) (Result A E)) (f : F) (shown : Bor T) (r : Result A E)
    → FnReturns g f (shown, tt) r → IfOk r (λ x. FnReturnsAt g f shown.now (Ok x))
at_ok g f shown (Ok x) says = record { shown = shown; shows = refl; says = says }
at_ok g f shown (Err e) says = tt

-- what holds of the clone that there may be holds of the value
pub of_clone : {T E : Type 0} (P : T → Type 0) (value : T) (cloned : Result (Arc T Global) E)
    → IfOk cloned (λ copy. arc_value copy ≡ value) → IsSomeAnd (result_ok cloned) (λ copy. P (arc_value copy)) → P value
of_clone P value (Ok copy) same holds = subst P same holds
of_clone P value (Err e) same holds = absurd holds

module _ {T : Type 0} (responds : T → WholeRequest → WholeResponse → Type 0) (responder : Option (Arc T Global))
    (notes : Notes) (old new : Receiving TcpStream) where
  pub answers_as_before : ((received : WholeRequest) → MayReceive new received → MayReceive old received)
      → (x : Result (Response (Full (List ℕ))) ConnectionFault)
      → IfOk x (MayAnswer responds (record { responder = responder; notes = notes; receiving = new }))
      → IfOk x (MayAnswer responds (record { responder = responder; notes = notes; receiving = old }))
  answers_as_before within (Ok sent) may = (may.0, within may.0 may.1, may.2)
  answers_as_before within (Err fault) may = tt
