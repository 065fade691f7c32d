-- What a service of reflection answers, and one that has ended.
use Rattle.std.specs.Prelude.{◌≡◌, IfOk, Some}
use Rattle.std.specs.Arc.{arc_value}
use Rattle.std.specs.declared.net.SocketAddr.{SocketAddr}
use Rattle.grpcweb_service.specs.Responses.{IsResponseFor}
use Rattle.grpcweb_service.specs.declared.service.EndedService.{EndedService}
use Rattle.grpcweb_service.specs.declared.service.ReflectionService.{ReflectionService}
use Rattle.http_connection.specs.Messages.{WholeRequest, WholeResponse}

-- each of these responses is the answer to its request, over the compilation that is served and in its mode
abbrev pub GivesAnswersOf : ReflectionService → (WholeRequest → WholeResponse → Type 0) → Type 0
GivesAnswersOf service responds = (request : WholeRequest) (response : WholeResponse) → responds request response
    → IsResponseFor service.mode (arc_value service.compiled) request response

-- it served this at an address; where it came to its end, so many connections as were asked for
pub record HasServed (service : ReflectionService) (address : SocketAddr) (ended : EndedService) : Type 0 where
  pub served : ended.service.value ≡ service
  pub at : ended.address ≡ address
  pub counted : IfOk ended.end (λ count. service.connections ≡ Some count)
