use Rattle.std.proofs.Common.{take}
use Rattle.source_folder.specs.Folder.{names_of}
use Rattle.skipped_sources.specs.Losing.{HoldsNames}
use Rattle.skipped_sources.proofs.names.names_of.Given as goal

abbrev pub invariant-loop-source : goal.invariant-loop-source
invariant-loop-source l = HoldsNames (names_of (take l.source-index l.sources)) l.names
