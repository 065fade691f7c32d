use Rattle.std.proofs.Common.{arith}
use Rattle.std.proofs.lemmas.Grind.{common_steps}
use Rattle.std.proofs.lemmas.List.Folds.{list_all_at}
use Rattle.proto_desc.proofs.Resolves.{message_resolved_out}
use Rattle.proto_desc.proofs.resolved.+message_resolved.Goals as goal

pub returns-then-not-fields_resolved : goal.returns-then-not-fields_resolved
returns-then-not-fields_resolved t c = rw (message_resolved_out c.args.message.now) (grind (arith, common_steps))

pub returns-then-not-message_resolved : goal.returns-then-not-message_resolved
returns-then-not-message_resolved t c =
    rw (message_resolved_out c.args.message.now) (grind (arith, common_steps, list_all_at))

pub returns : goal.returns
returns t c = rw (message_resolved_out c.args.message.now) (grind (arith, common_steps))
