use Rattle.proto_links.proofs.Common.{take, IsLeast, IsWrongIn}
use Rattle.proto_links.proofs.faults.first_wrong.Given as goal

abbrev pub invariant-loop-import : goal.invariant-loop-import
invariant-loop-import l = IsLeast (IsWrongIn l.files l.file (take l.import-index l.imports)) l.first
