use Rattle.proto_checks.proofs.Common.{◌≡◌, map, take}
use Rattle.proto_checks.specs.Checks.{json_mark}
use Rattle.proto_checks.proofs.names.json_names.Given as goal

abbrev pub invariant-loop-field : goal.invariant-loop-field
invariant-loop-field l = l.names.items ≡ map json_mark (take l.field-index l.fields)
