use Rattle.proto_lower.proofs.Common.{◌∙◌, ap, arith, sym, flat_map, common_steps, options_of}
use Rattle.proto_lower.proofs.OptionRows.{no_options, rows_give}
use Rattle.proto_lower.proofs.options.options_of.Goals as goal

pub returns-then-count-eq0 : goal.returns-then-count-eq0
returns-then-count-eq0 g c = c.new.ensures ∙ sym (no_options c.args.element)
    ∙ ap (options_of c.args.element) (sym (c.setting_count-count.ensures c.if-count-eq0.true))

pub loop-rule-preserved : goal.loop-rule-preserved
loop-rule-preserved g c = grind (arith, common_steps)

pub returns : goal.returns
returns g c =
    rows_give (flat_map g.I.Item.setting_of c.args.items.now) c.args.element c.rules-rules.result.now
    c.loop-rule.rule-index c.from_vec.result (omega arith) (c.from_vec.ensures ∙ c.loop-rule.invariant)
    c.rules-rules.ensures
