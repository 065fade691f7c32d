use Rattle.std.proofs.lemmas.Result.{IfOk-weaker}
use Rattle.grpcweb_core.specs.Http.{elsewhere, no_post, no_grpc_web, answered}
use Rattle.grpcweb_core.proofs.mapping.respond.Goals as goal

pub returns-then-not-is_reflection : goal.returns-then-not-is_reflection
returns-then-not-is_reflection g c =
    IfOk-weaker c.in_frames.result _ _ (λ answer is. rw is
    (rw (c.in_ok-response_without_replies.ensures, c.number-status.ensures)
    (elsewhere (λ known. cc (c.is_reflection.ensures.1 known))))) c.in_frames.ensures

pub returns-then-not-is_post : goal.returns-then-not-is_post
returns-then-not-is_post g c =
    IfOk-weaker c.not_allowed.result _ _ (λ answer is. rw is
    (no_post (c.is_reflection.ensures.0 c.if-not-is_reflection.false) (λ post. cc (c.is_post.ensures.1 post))))
    c.not_allowed.ensures

pub returns-then-not-is_accepted : goal.returns-then-not-is_accepted
returns-then-not-is_accepted g c =
    rw c.unsupported.ensures (no_grpc_web (c.is_reflection.ensures.0 c.if-not-is_reflection.false)
    (c.is_post.ensures.0 c.if-not-is_post.false) (λ web. cc (c.is_accepted.ensures.1 web)))

pub returns : goal.returns
returns g c =
    IfOk-weaker c.in_frames-2.result _ _ (λ answer is.
    rw is (answered c.in_ok-response.response.items (c.is_reflection.ensures.0 c.if-not-is_reflection.false)
    (c.is_post.ensures.0 c.if-not-is_post.false) (c.is_accepted.ensures.0 c.if-not-is_accepted.false)
    c.in_ok-response.ensures)) c.in_frames-2.ensures
