use Rattle.std.proofs.Common.{◌≡◌, drop, map, filter_map}
use Rattle.wire_format.specs.ProgramFields.{field_of}
use Rattle.proto_sets.specs.Elements.{last_of, text_in, text_of}
use Rattle.proto_sets.proofs.last.last_text.Given as goal

abbrev pub invariant-loop-field : goal.invariant-loop-field
invariant-loop-field l =
    last_of l.last (filter_map (text_in l.number) (map field_of (drop l.field-index l.fields)))
    ≡ text_of l.number (map field_of l.fields)
