use Rattle.std.proofs.Common.{refl, None, Some}
use Rattle.proto_types.proofs.Walking.{found_all, sorted_least}
use Rattle.proto_types.proofs.typing.resolve_types.Goals as goal

pub returns-in-None-clause-whole : goal.returns-in-None-clause-whole
returns-in-None-clause-whole c =
    let found = found_all c.new-found.ensures.types c.new-found.ensures.faults c.in_ok-find_types.ensures in
    let least = sorted_least found _ c.sort_spots.ensures.same c.sort_spots.ensures.order None
    (rw c.deref.ensures.value at c.in-None.ensures.value) in
    least.is

pub returns-in-None-clause-types : goal.returns-in-None-clause-types
returns-in-None-clause-types c =
    let found = found_all c.new-found.ensures.types c.new-found.ensures.faults c.in_ok-find_types.ensures in
    found.means (returns-in-None-clause-whole c)

pub returns-in-Some-clause-first : goal.returns-in-Some-clause-first
returns-in-Some-clause-first c =
    let found = found_all c.new-found.ensures.types c.new-found.ensures.faults c.in_ok-find_types.ensures in
    rw c.at.ensures (
      refl,
      sorted_least found _ c.sort_spots.ensures.same c.sort_spots.ensures.order
          (Some c.in-Some.fault.now) (rw c.deref.ensures.value at c.in-Some.ensures.value),
    )
