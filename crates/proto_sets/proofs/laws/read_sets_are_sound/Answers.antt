use Rattle.proto_sets.proofs.Alike.{sound}
use Rattle.proto_sets.proofs.laws.read_sets_are_sound.Goals as goal

pub returns : goal.returns
returns c = sound
