use Rattle.proto_compile.proofs.Making.{sound}
use Rattle.proto_compile.proofs.laws.compilations_are_sound.Goals as goal

pub returns : goal.returns
returns c = sound
