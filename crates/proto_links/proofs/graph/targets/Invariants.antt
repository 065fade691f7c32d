use Rattle.std.proofs.Common.{take}
use Rattle.proto_links.proofs.Faulting.{Targeting}
use Rattle.proto_links.proofs.graph.targets.Given as goal

abbrev pub invariant-loop-import : goal.invariant-loop-import
invariant-loop-import l = Targeting l.files (take l.import-index l.imports) l.all.items l.public.items l.is_whole
