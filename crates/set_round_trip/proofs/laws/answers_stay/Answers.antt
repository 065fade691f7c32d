use Rattle.proto_compilation.specs.Compilation.{set_of}
use Rattle.proto_compile.proofs.Making as compiled
use Rattle.proto_sets.proofs.Alike as read
use Rattle.set_round_trip.proofs.Alike.{alike}
use Rattle.set_round_trip.proofs.Responses.{same_responses}
use Rattle.set_round_trip.proofs.laws.answers_stay.Goals as goal

pub returns-clause-alike : goal.returns-clause-alike
returns-clause-alike e = same_responses

pub returns-clause-sets : goal.returns-clause-sets
returns-clause-sets e mode limits sources c d is read_so =
    same_responses c d (compiled.sound limits sources c is) (read.sound limits (set_of c.files c.links) d read_so)
    (alike limits sources c d is read_so) mode
