use Rattle.std.proofs.Common.{All, take}
use Rattle.grpcweb_core.specs.Http.{IsBlank}
use Rattle.grpcweb_core.proofs.content_type.is_behind_type.Given as goal

abbrev pub invariant-loop-byte : goal.invariant-loop-byte
invariant-loop-byte l = All IsBlank (take l.byte-index l.text)
