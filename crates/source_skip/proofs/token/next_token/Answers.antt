use Rattle.std.proofs.Common.{arith, ◌∙◌}
use Rattle.source_skip.specs.ProgramTokens.{lexeme_of_kind}
use Rattle.source_skip.proofs.Going.{behind_gap, behind_token}
use Rattle.source_skip.proofs.token.next_token.Goals as goal

pub returns-then-is_token-clause-token : goal.returns-then-is_token-clause-token
returns-then-is_token-clause-token c = c.loop-len.invariant.2
    ∙ behind_token c.args.text.now c.loop-len.at c.loop-len.invariant.0 c.in-Some.len c.in-Some.is_token
    (lexeme_of_kind c.kind_of.result) c.if-is_token.true c.in-Some.ensures.found c.kind_of.ensures

pub loop-len-preserved : goal.loop-len-preserved
loop-len-preserved c = (
  omega (arith, c.in-Some.ensures.within),
  omega arith,
  c.loop-len.invariant.2
      ∙ behind_gap c.args.text.now c.loop-len.at c.loop-len.invariant.0 c.in-Some.len c.in-Some.is_token
      c.if-is_token.false c.in-Some.ensures.found,
)
