use Rattle.proto_names.proofs.Common.{arith}
use Rattle.proto_names.proofs.EntryLemmas.{told_length}
use Rattle.proto_names.proofs.entries.Entries.len.Goals as goal

pub returns : goal.returns
returns c = grind (arith, told_length)
