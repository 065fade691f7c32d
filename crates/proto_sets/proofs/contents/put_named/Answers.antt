use Rattle.std.proofs.Common.{◌≡◌, arith, refl}
use Rattle.std.proofs.lemmas.Grind.{common_steps}
use Rattle.proto_sets.specs.SetFaults.{Fault, of_file}
use Rattle.proto_sets.specs.Sets.{Contents, SaysFile}
use Rattle.proto_sets.specs.declared.fault.SetKind.TheVariants as kind
use Rattle.proto_sets.proofs.LeastFault.{told}
use Rattle.proto_sets.proofs.contents.put_named.Goals as goal

pub returns-in-Err-Malformed-clause-silent : goal.returns-in-Err-Malformed-clause-silent
returns-in-Err-Malformed-clause-silent c =
    let file = c.args.file.now in
    told (λ (x : Fault). (x ≡ of_file kind.MalformedContents file.name.now)
    × ((contents : Contents) → SaysFile c.args.depth file.bytes.now contents → ⊥))
    (of_file kind.MalformedContents file.name.now) c.refusal_of_file.result c.refusal_of_file.ensures
    (refl, c.in-Err-Malformed.ensures.malformed (grind (arith, common_steps)))
