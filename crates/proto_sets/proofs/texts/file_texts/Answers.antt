use Rattle.std.proofs.Common.{arith}
use Rattle.std.proofs.lemmas.List.{length-map}
use Rattle.std.proofs.lemmas.Grind.{common_steps}
use Rattle.proto_sets.specs.SetFaults.{IsLeastFault, of_set}
use Rattle.proto_sets.specs.declared.fault.SetKind.TheVariants as kind
use Rattle.proto_sets.proofs.LeastFault.{told}
use Rattle.proto_sets.proofs.SetLeast.{count_least, long_least, row_least}
use Rattle.proto_sets.proofs.texts.file_texts.Goals as goal

pub returns-then-set-get-clause-first : goal.returns-then-set-get-clause-first
returns-then-set-get-clause-first c =
    let limits = c.args.limits.now in
    let set = c.args.set.now in
    told (IsLeastFault limits set) (of_set kind.SetTooLong) c.refusal.result c.refusal.ensures
    (long_least limits set (omega arith))

pub returns-in-Err-Malformed-clause-first : goal.returns-in-Err-Malformed-clause-first
returns-in-Err-Malformed-clause-first c =
    let limits = c.args.limits.now in
    let set = c.args.set.now in
    told (IsLeastFault limits set) (of_set kind.MalformedSet) c.refusal-in-Err-Malformed.result
    c.refusal-in-Err-Malformed.ensures
    (row_least limits set (omega arith) (c.in-Err-Malformed.ensures.malformed (grind (arith, common_steps))))

pub returns-then-len-get-clause-first : goal.returns-then-len-get-clause-first
returns-then-len-get-clause-first c =
    let limits = c.args.limits.now in
    let set = c.args.set.now in
    told (IsLeastFault limits set) (of_set kind.TooManyFiles) c.refusal-then-len-get.result
    c.refusal-then-len-get.ensures
    (count_least limits set (omega arith) c.in-Ok.ensures.texts
    (omega (arith, length-map c.in-Ok.texts.items (λ t. t.now))))
