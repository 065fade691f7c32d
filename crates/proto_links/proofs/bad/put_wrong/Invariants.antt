use Rattle.proto_base.proofs.Gains.{GainsTo}
use Rattle.proto_links.proofs.Common.{IsWrongAt}
use Rattle.proto_links.proofs.bad.put_wrong.Given as goal

abbrev pub invariant-loop-import : goal.invariant-loop-import
invariant-loop-import l =
    GainsTo l.imports (IsWrongAt l.files l.file) l.import-index l.initial.spots.items l.spots.items
