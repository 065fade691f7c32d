use Rattle.std.proofs.Common.{arith}
use Rattle.std.proofs.lemmas.Grind.{common_steps}
use Rattle.proto_sets.proofs.texts.texts_of.Goals as goal

pub returns-in_err-fields-clause-malformed : goal.returns-in_err-fields-clause-malformed
returns-in_err-fields-clause-malformed c e texts are =
    c.in_err-fields.ensures.malformed (grind (arith, common_steps, c.from_residual.ensures, e)) are.0 are.1
