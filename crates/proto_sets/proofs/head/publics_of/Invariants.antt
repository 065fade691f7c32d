use Rattle.std.proofs.Common.{◌≡◌, ◌++◌, drop, map, filter_map}
use Rattle.wire_format.specs.ProgramFields.{field_of}
use Rattle.proto_sets.specs.Elements.{number_in}
use Rattle.proto_sets.proofs.head.publics_of.Given as goal

abbrev pub invariant-loop-field : goal.invariant-loop-field
invariant-loop-field l =
    l.publics.items ++ filter_map (number_in 10) (map field_of (drop l.field-index l.fields))
    ≡ filter_map (number_in 10) (map field_of l.fields)
