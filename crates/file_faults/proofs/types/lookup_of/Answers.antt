use Rattle.std.proofs.Common.{ap, arith, Err}
use Rattle.file_faults.proofs.types.lookup_of.Goals as goal

pub returns-in-Err-At-clause-right : goal.returns-in-Err-At-clause-right
returns-in-Err-At-clause-right g c = λ can.
    let bad = c.in-Err-At.ensures.bad c.in-Err-At.field-0-0 c.in-Err-At.field-0-1 c.in-Err-At.field-0-2
    (ap Err c.in-Err-At.field-0-is) in
    absurd (can.imports c.in-Err-At.field-0-0 c.in-Err-At.field-0-1 c.in-Err-At.field-0-2 bad.among)

pub returns-in-Err-At-build_by : goal.returns-in-Err-At-build_by
returns-in-Err-At-build_by g c = record {
  found = tt;
  right = λ can. (
      let repeated = c.in-Err-At-build_by.ensures.twice c.in-Err-At-build_by.field-0-0 c.in-Err-At-build_by.field-0-1
      (ap Err c.in-Err-At-build_by.field-0-is) in
      let (o, first, file, at) = repeated.twice in absurd (can.names o first.among));
}

pub returns-in-Err-TooMany : goal.returns-in-Err-TooMany
returns-in-Err-TooMany g c = record {
  found = tt;
  right = λ can. absurd (omega (arith, can.few, c.in-Err-TooMany.ensures.many (ap Err c.in-Err-TooMany.field-0-is)));
}
