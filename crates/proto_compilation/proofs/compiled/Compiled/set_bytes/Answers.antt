use Rattle.proto_compilation.proofs.Within.{ordered_within}
use Rattle.proto_compilation.proofs.compiled.Compiled.set_bytes.Goals as goal

pub set_bytes-requires : goal.set_bytes-requires
set_bytes-requires c = ordered_within _ c.self.invariant.coherent
