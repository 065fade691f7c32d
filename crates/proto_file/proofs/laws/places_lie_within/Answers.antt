use Rattle.proto_file.proofs.LocalPlaces.{fault_inside, places_within}
use Rattle.proto_file.proofs.laws.places_lie_within.Goals as goal

pub returns-clause-of_fault : goal.returns-clause-of_fault
returns-clause-of_fault c limits name text f fault =
    let inside = fault_inside limits name text f fault in (inside.within, inside.short)

pub returns-clause-of_descriptor : goal.returns-clause-of_descriptor
returns-clause-of_descriptor c = places_within
