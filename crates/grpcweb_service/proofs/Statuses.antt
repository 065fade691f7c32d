-- The statuses of answers.
use Rattle.std.proofs.Common.{arith}
use Rattle.first_reach.specs.declared.mode.Mode.{Mode}
use Rattle.grpcweb_core.specs.Http.{AnswerOverHttp, IsAnswerOverHttp, RequestOverHttp, answered, elsewhere, no_grpc_web, no_post}
use Rattle.http.specs.StatusCode.{IsStatusCode}
use Rattle.proto_compilation.specs.Compilation.{Compilation}

pub status_of : {mode : Mode} {c : Compilation} {request : RequestOverHttp} {answer : AnswerOverHttp}
    → IsAnswerOverHttp mode c request answer → IsStatusCode answer.status
status_of (elsewhere none) = (omega arith, omega arith)
status_of (no_post known other) = (omega arith, omega arith)
status_of (no_grpc_web known post other) = (omega arith, omega arith)
status_of (answered response known post web is) = (omega arith, omega arith)
