use Rattle.std.proofs.Common.{◌≡◌, ◌++◌, drop, map, filter_map}
use Rattle.wire_format.specs.ProgramFields.{field_of}
use Rattle.proto_sets.specs.Elements.{text_in}
use Rattle.proto_sets.proofs.texts.texts_among.Given as goal

abbrev pub invariant-loop-field : goal.invariant-loop-field
invariant-loop-field l =
    map (λ t. t.now) l.texts.items ++ filter_map (text_in 1) (map field_of (drop l.field-index l.fields))
    ≡ filter_map (text_in 1) (map field_of l.fields)
