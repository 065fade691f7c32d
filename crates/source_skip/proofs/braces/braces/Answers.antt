use Rattle.std.proofs.Common.{sym, ◌∙◌}
use Rattle.source_skip.specs.ProgramTokens.{spelled}
use Rattle.source_skip.proofs.Closing.{braces_behind, left_within}
use Rattle.source_skip.proofs.braces.braces.Goals as goal

pub overflow_sub-result : goal.overflow_sub-result
overflow_sub-result c = left_within spelled c.args.closes.now c.in_ok-brace.brace.now c.in_ok-brace.inner.now
    c.in_ok-left.left (rw c.in_ok-brace.ensures.cases.0 at c.requires) c.in_ok-left.was

pub returns : goal.returns
returns c = rw c.in_ok-brace.ensures.cases.0 (braces_behind spelled c.args.closes.now c.in_ok-brace.brace.now
    c.in_ok-brace.inner.now c.in_ok-left.left (rw c.in_ok-brace.ensures.cases.0 at c.requires) c.in_ok-left.was
    (sym c.is_symbol.ensures ∙ c.if-not-is_symbol.false))
