use Rattle.std.proofs.Common.{rules}
use Rattle.counted_io.proofs.memory.is_no_memory.Goals as goal

pub returns-then-eq : goal.returns-then-eq
returns-then-eq c = search rules
