use Rattle.reflect_core.proofs.Common.{declared, not_declared}
use Rattle.reflect_core.proofs.Declaring.{declares_of}
use Rattle.reflect_core.proofs.answer.declaring_file.Goals as goal

pub returns-in-Some-clause-answer : goal.returns-in-Some-clause-answer
returns-in-Some-clause-answer c =
    let w = c.find.ensures.found c.in-Some.defined c.in-Some.is in
    rw (← w.4) (declared _ w.0 (declares_of c.args.compiled.now _ _ w.0 _ c.names.ensures w.1 w.2 w.3))

pub returns-in-None-clause-answer : goal.returns-in-None-clause-answer
returns-in-None-clause-answer c =
    not_declared _ (λ o d. d.element (c.find.ensures.none c.in-None.is o (rw c.names.ensures d.declared) d.named))
