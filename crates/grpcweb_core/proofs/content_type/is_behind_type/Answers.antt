use Rattle.std.proofs.Common.{sym, arith, [], refl, append-nil, take_all}
use Rattle.grpcweb_core.proofs.Judging.{semicolon}
use Rattle.grpcweb_core.proofs.content_type.is_behind_type.Goals as goal

pub returns-then-not-is_blank : goal.returns-then-not-is_blank
returns-then-not-is_blank c =
    semicolon c.args.text.now c.loop-byte.byte-index c.loop-byte.invariant (omega (arith, c.loop-byte-test.true))
    (λ blank. cc (c.is_blank.ensures.1 blank))

pub returns : goal.returns
returns c =
    let text = c.args.text.now in
    let whole = take_all c.loop-byte.byte-index text (omega (arith, c.loop-byte-test.false)) in
    (λ yes. (text, [], sym (append-nil text), rw whole at c.loop-byte.invariant, tt), λ behind. refl)
