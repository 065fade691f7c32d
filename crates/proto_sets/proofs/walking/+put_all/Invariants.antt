use Rattle.std.proofs.Common.{◌≡◌, ◌++◌, List, drop, map, filter_map}
use Rattle.proto_names.specs.Entries.{IsScopeAmong, scope_name}
use Rattle.wire_format.specs.ProgramFields.{field_of}
use Rattle.proto_sets.specs.Says.{FieldSays, Inside, Said, said_extension, said_occurrence}
use Rattle.proto_sets.specs.SaysSteps.{extension_of}
use Rattle.proto_sets.proofs.Walked.{SoFar}
use Rattle.proto_sets.proofs.walking.+put_all.Given as goal

abbrev pub decreases-put_all : goal.decreases-put_all
decreases-put_all l = l.depth

abbrev pub invariant-loop-field : goal.invariant-loop-field
invariant-loop-field l = (said : List Said)
    × SoFar (FieldSays (Inside l.depth) l.holder (scope_name l.fn.found.names l.scope)) (map field_of l.fields)
    (map field_of (drop l.field-index l.fields)) said
    × (l.found.names ≡ l.fn.found.names ++ map (said_occurrence l.file) said)
    × (map extension_of l.found.extensions.items
    ≡ map extension_of l.fn.found.extensions.items ++ filter_map (said_extension l.file) said)
    × IsScopeAmong l.found.names l.scope
    × (scope_name l.found.names l.scope ≡ scope_name l.fn.found.names l.scope)
