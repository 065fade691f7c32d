use Rattle.proto_lower.proofs.Common.{sym, ◌∙◌, arith, common_steps, names_of_fields}
use Rattle.proto_lower.proofs.NoneMade.{none_made}
use Rattle.proto_lower.proofs.oneof.put_made.Goals as goal

pub returns-then-not-has_optional : goal.returns-then-not-has_optional
returns-then-not-has_optional c =
    sym (none_made (names_of_fields c.args.fields.now) c.args.oneofs.now.items c.args.fields.now
    (sym c.has_optional.ensures ∙ c.if-not-has_optional.true))

pub loop-field-preserved : goal.loop-field-preserved
loop-field-preserved c = grind (arith, common_steps)

pub returns : goal.returns
returns c = grind (arith, common_steps)
