use Rattle.proto_lower.proofs.Common.{◌∙◌, ap, arith, sym, common_steps, options_of}
use Rattle.proto_options.specs.Options.{bracketed}
use Rattle.proto_lower.proofs.OptionRows.{no_options, rows_give}
use Rattle.proto_lower.proofs.options.bracketed_options.Goals as goal

pub returns-then-count-eq0 : goal.returns-then-count-eq0
returns-then-count-eq0 c = c.new.ensures ∙ sym (no_options c.args.element)
    ∙ ap (options_of c.args.element) (sym (c.bracketed_count-count.ensures c.if-count-eq0.true))

pub loop-rule-preserved : goal.loop-rule-preserved
loop-rule-preserved c = grind (arith, common_steps)

pub returns : goal.returns
returns c =
    rows_give (bracketed c.args.options.now) c.args.element c.rules-rules.result.now c.loop-rule.rule-index
    c.from_vec.result (omega arith) (c.from_vec.ensures ∙ c.loop-rule.invariant) c.rules-rules.ensures
