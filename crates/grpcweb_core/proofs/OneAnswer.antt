-- A request over HTTP has one answer.
use Rattle.std.proofs.Common.{◌≡◌, ap, refl}
use Rattle.first_reach.specs.declared.mode.Mode.{Mode}
use Rattle.grpcweb_core.specs.Http.{AnswerOverHttp, IsAnswerOverHttp, RequestOverHttp, answered, elsewhere, framed, no_grpc_web, no_post}
use Rattle.proto_compilation.specs.Alike.{AreAlike}
use Rattle.proto_compilation.specs.Compilation.{Compilation}
use Rattle.proto_compilation.specs.Sound.{IsSound}
use Rattle.reflect_core.proofs.OneResponse.{one_response}

module _ (c d : Compilation) (mode : Mode) (request : RequestOverHttp) (sound : IsSound c) (same : AreAlike c d) where
  pub one_answer : (a b : AnswerOverHttp) → IsAnswerOverHttp mode c request a → IsAnswerOverHttp mode d request b → a ≡ b
  one_answer _ _ (elsewhere out) (elsewhere _) = refl
  one_answer _ _ (elsewhere out) (no_post here _) = absurd (out here)
  one_answer _ _ (elsewhere out) (no_grpc_web here _ _) = absurd (out here)
  one_answer _ _ (elsewhere out) (answered _ here _ _ _) = absurd (out here)
  one_answer _ _ (no_post here _) (elsewhere out) = absurd (out here)
  one_answer _ _ (no_post _ _) (no_post _ _) = refl
  one_answer _ _ (no_post _ method) (no_grpc_web _ post _) = absurd (method post)
  one_answer _ _ (no_post _ method) (answered _ _ post _ _) = absurd (method post)
  one_answer _ _ (no_grpc_web here _ _) (elsewhere out) = absurd (out here)
  one_answer _ _ (no_grpc_web _ post _) (no_post _ method) = absurd (method post)
  one_answer _ _ (no_grpc_web _ _ _) (no_grpc_web _ _ _) = refl
  one_answer _ _ (no_grpc_web _ _ other) (answered _ _ _ type _) = absurd (other type)
  one_answer _ _ (answered _ here _ _ _) (elsewhere out) = absurd (out here)
  one_answer _ _ (answered _ _ post _ _) (no_post _ method) = absurd (method post)
  one_answer _ _ (answered _ _ _ type _) (no_grpc_web _ _ other) = absurd (other type)
  one_answer _ _ (answered r _ _ _ is) (answered s _ _ _ also) =
      ap framed (one_response c d sound same mode request.body r s is also)
