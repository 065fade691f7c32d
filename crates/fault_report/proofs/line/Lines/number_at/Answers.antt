use Rattle.std.proofs.Common.{◌∙◌, arith, rules, ltb}
use Rattle.std.proofs.lemmas.Fn.{always_returns_same}
use Rattle.fault_report.proofs.LineEnds.{ends_before, few_before}
use Rattle.fault_report.proofs.line.Lines.number_at.Goals as goal

pub overflow_cast-result : goal.overflow_cast-result
overflow_cast-result c =
    let begun = c.partition_point-before.ensures in
    omega (
      arith,
      few_before c.deref.result.now c.args.self.now.text.now c.args.place.offset c.partition_point-before.result
          (c.deref.ensures.value ∙ c.args.self.now.whole) begun.bound (begun.partitioned (λ e. ltb e c.args.place.offset)
          (always_returns_same _ _ _ (λ a r g called. search rules))),
    )

pub overflow_add-result : goal.overflow_add-result
overflow_add-result c =
    let begun = c.partition_point-before.ensures in
    omega (
      arith,
      few_before c.deref.result.now c.args.self.now.text.now c.args.place.offset c.partition_point-before.result
          (c.deref.ensures.value ∙ c.args.self.now.whole) begun.bound (begun.partitioned (λ e. ltb e c.args.place.offset)
          (always_returns_same _ _ _ (λ a r g called. search rules))),
    )

pub returns : goal.returns
returns c =
    let begun = c.partition_point-before.ensures in
    omega (
      arith,
      ends_before c.deref.result.now c.args.self.now.text.now c.args.place.offset c.partition_point-before.result
          (c.deref.ensures.value ∙ c.args.self.now.whole) begun.bound (begun.partitioned (λ e. ltb e c.args.place.offset)
          (always_returns_same _ _ _ (λ a r g called. search rules))),
    )
