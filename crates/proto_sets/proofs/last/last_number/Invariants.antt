use Rattle.std.proofs.Common.{◌≡◌, drop, map, filter_map}
use Rattle.wire_format.specs.ProgramFields.{field_of}
use Rattle.proto_sets.specs.Elements.{last_of, number_in, number_of}
use Rattle.proto_sets.proofs.last.last_number.Given as goal

abbrev pub invariant-loop-field : goal.invariant-loop-field
invariant-loop-field l =
    last_of l.last (filter_map (number_in l.number) (map field_of (drop l.field-index l.fields)))
    ≡ number_of l.number (map field_of l.fields)
