use Rattle.proto_checks.proofs.Common.{rules, answers_always}
use Rattle.proto_checks.proofs.Clashes.{is_less, numbers_none}
use Rattle.proto_checks.proofs.repeats.is_rising.Goals as goal

pub returns : goal.returns
returns c = λ yes. numbers_none c.args.numbers.now (rw yes at
    (c.is_sorted_by.ensures.cases is_less (answers_always _ _ _ (λ f a r g called. search rules))))
