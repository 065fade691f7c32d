-- Where reserved ranges end.
use Rattle.std.specs.Prelude.{Option, Some, None}
use Rattle.proto_tree.specs.declared.reserved.RangeEnd.{RangeEnd}
use Rattle.proto_tree.specs.declared.reserved.UpperBound.{UpperBound}
use Rattle.proto_tree.specs.declared.reserved.UpperBound.TheVariants.{Number, Max}

-- the number of an upper bound; `max` is none
abbrev pub number_of_bound : {N : Type 0} → UpperBound N → Option N
number_of_bound (Number n) = Some n
number_of_bound (Max s) = None

-- the last number of a range, as it is written; one without an end ends at its start
abbrev pub last_number : {N : Type 0} → (start : N) → Option (RangeEnd N) → Option N
last_number start None = Some start
last_number start (Some e) = number_of_bound e.bound
