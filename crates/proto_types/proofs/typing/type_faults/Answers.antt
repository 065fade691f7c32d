use Rattle.proto_types.proofs.Walking.{found_all, sorted_are}
use Rattle.proto_types.proofs.typing.type_faults.Goals as goal

pub returns-clause-all : goal.returns-clause-all
returns-clause-all c = sorted_are (found_all c.new-found.ensures.types c.new-found.ensures.faults
    c.in_ok-find_types.ensures) _ c.sort_spots.ensures.same
