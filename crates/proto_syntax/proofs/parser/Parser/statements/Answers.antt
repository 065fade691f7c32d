use Rattle.proto_syntax.proofs.Common.{arith, sym, refl, ◌∙◌, statement, message}
use Rattle.proto_syntax.proofs.Levels.{decided}
use Rattle.proto_syntax.proofs.Loops.{fewer_left, ends_none, turn_more, turn_fails, not_ended}
use Rattle.proto_syntax.proofs.parser.Parser.statements.Goals as goal

pub each-init : goal.each-init
each-init c = grind (arith, ends_none, decided c.args.depth)

pub each-smaller : goal.each-smaller
each-smaller c = fewer_left (statement (message c.args.depth)) _ _ _ c.each.invariant.has_tokens
    c.in_ok-statement.ensures

pub each-preserved : goal.each-preserved
each-preserved c = rw c.in_ok-push.ensures.items (turn_more c.each.invariant _ _ c.in_ok-statement.ensures)

pub returns-in_err-statement : goal.returns-in_err-statement
returns-in_err-statement c = let n = sym c.is_empty.ensures ∙ c.each-test.true in
    grind (arith, turn_fails c.each.invariant _ _ (λ d us. refl) (not_ended _ _ n) c.in_err-statement.ensures)
