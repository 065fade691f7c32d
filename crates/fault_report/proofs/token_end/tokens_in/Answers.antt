use Rattle.std.proofs.Common.{refl, ap, Some}
use Rattle.fault_report.proofs.Spelled.{no_memory_at}
use Rattle.fault_report.proofs.token_end.tokens_in.Goals as goal

pub returns-in-Ok : goal.returns-in-Ok
returns-in-Ok c = record {
  spelled = c.in-Ok.ensures.tokens;
  every = λ ts is. ap Some (c.in-Ok.ensures.every_spelling ts is);
  none = λ at kind fault. absurd (c.in-Ok.ensures.every_fault at kind fault);
}

pub returns-in-Err-At : goal.returns-in-Err-At
returns-in-Err-At c = record {
  spelled = tt;
  every = λ ts is.
      absurd (no_memory_at c.in-Err-At.field-0-0 c.in-Err-At.field-0-1 c.in-Err-At.field-0 c.in-Err-At.field-0-is
      (c.in-Err-At.ensures.every_spelling ts is));
  none = λ at kind fault. refl;
}
