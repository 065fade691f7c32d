use Rattle.std.proofs.Common.{arith}
use Rattle.std.proofs.lemmas.Grind.{common_steps}
use Rattle.proto_sets.specs.SetFaults.{at_position}
use Rattle.proto_sets.specs.SetSteps.{IsNameless, malformed, empty}
use Rattle.proto_sets.specs.declared.fault.SetKind.TheVariants as kind
use Rattle.proto_sets.proofs.LeastFault.{told}
use Rattle.proto_sets.proofs.files.file_at.Goals as goal

pub returns-then-is_empty-clause-first : goal.returns-then-is_empty-clause-first
returns-then-is_empty-clause-first c =
    told (IsNameless c.args.at c.args.bytes.now) (at_position kind.FileWithoutName c.args.at) c.refusal.result
    c.refusal.ensures (empty (grind (arith, common_steps)))

pub returns-in-Err-Malformed-clause-first : goal.returns-in-Err-Malformed-clause-first
returns-in-Err-Malformed-clause-first c =
    told (IsNameless c.args.at c.args.bytes.now) (at_position kind.MalformedFile c.args.at)
    c.refusal-in-Err-Malformed.result c.refusal-in-Err-Malformed.ensures
    (malformed (c.in-Err-Malformed.ensures.malformed (grind (arith, common_steps))))
