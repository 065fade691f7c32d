use Rattle.proto_sets.proofs.OneSet.{one_contents}
use Rattle.proto_sets.proofs.laws.descriptors_say_one_thing.Goals as goal

pub returns : goal.returns
returns c = one_contents
