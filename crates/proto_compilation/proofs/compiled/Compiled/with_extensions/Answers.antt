use Rattle.proto_compilation.proofs.Within.{ordered_within}
use Rattle.proto_compilation.proofs.compiled.Compiled.with_extensions.Goals as goal

pub set_len-requires-clause-inside : goal.set_len-requires-clause-inside
set_len-requires-clause-inside c = ordered_within _ c.requires
