use Rattle.std.proofs.Common.{◌++◌, string_bytes}
use Rattle.proto_desc.specs.JsonNames.{raised}
use Rattle.proto_desc.proofs.Raised.{IsSoFar}
use Rattle.proto_desc.proofs.json_name.push_raised.Given as goal

abbrev pub invariant-loop-letter : goal.invariant-loop-letter
invariant-loop-letter l =
    IsSoFar (string_bytes l.made) l.before l.letter-iterator.rest.now
    (string_bytes l.initial.made ++ raised l.fn.first l.name)
