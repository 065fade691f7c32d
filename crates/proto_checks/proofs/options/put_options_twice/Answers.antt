use Rattle.proto_checks.proofs.Common.{later_map, gains_as, judged_name}
use Rattle.proto_checks.proofs.options.put_options_twice.Goals as goal

pub returns : goal.returns
returns c = gains_as _ _ _ c.put_texts_twice.ensures (later_map _ _ judged_name c.args.settings.now)
