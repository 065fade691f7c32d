use Rattle.std.proofs.Common.{rules, ltb, ℕ}
use Rattle.std.proofs.lemmas.Fn.{always_returns_same}
use Rattle.proto_tokens.specs.declared.token.Token.{Token}
use Rattle.fault_report.proofs.Rising.{found_here, found_other, found_past}
use Rattle.fault_report.proofs.token_end.token_at.Goals as goal
use Rattle.fault_report.proofs.token_end.token_at.Goals.{in_default-via-in-Some+else-token-place, in_default-via-in_default}

abbrev start : Token → ℕ
start t = t.span.start.offset

pub returns-in-Some : goal.returns-in-Some
returns-in-Some c = λ order.
    found_here start c.args.place.offset c.args.tokens.now c.partition_point-at.result order
    (c.partition_point-at.ensures.partitioned (λ t. ltb (start t) c.args.place.offset)
    (always_returns_same _ _ _ (λ a r g called. search rules)))
    c.in-Some.token.now c.in-Some.ensures.lookup.0 c.in-Some.ensures.lookup.1 c.if-token-place.true

pub returns-in_default : goal.returns-in_default
returns-in_default c = λ order.
    let parts = c.partition_point-at.ensures.partitioned (λ t. ltb (start t) c.args.place.offset)
    (always_returns_same _ _ _ (λ a r g called. search rules)) in
    elim c.in_default.branch [
      | in_default-via-in-Some+else-token-place w ↦
          found_other start c.args.place.offset c.args.tokens.now c.partition_point-at.result order parts
          w.in-Some.token.now w.in-Some.ensures.lookup.0 w.in-Some.ensures.lookup.1 w.if-token-place.false
      | in_default-via-in_default w ↦
          found_past start c.args.place.offset c.args.tokens.now c.partition_point-at.result order parts
          w.in_default.ensures.lookup.0
    ]
