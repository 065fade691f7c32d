use Rattle.proto_checks.proofs.Common.{refl, gains_none}
use Rattle.proto_checks.proofs.repeats.put_numbers_twice.Goals as goal

pub returns-then-is_rising : goal.returns-then-is_rising
returns-then-is_rising c = gains_none (c.if-is_rising.ensures refl c.args.kind)
