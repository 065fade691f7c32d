-- A run of `serve` that was cut off while its line was written.
use Rattle.std.proofs.Common.{◌≡◌, List, ℕ, Err, None, refl}
use Rattle.counted_io.specs.Runs.{IsWriteRun}
use Rattle.counted_io.specs.Streams.{Writes}
use Rattle.counted_io.specs.declared.stream.IoFault.{IoFault}
use Rattle.counted_io.specs.declared.stream.IoFault.TheVariants as io_fault
use Rattle.schema_failure.specs.Faults.{of_exchange}
use Rattle.schema_serve.specs.Bound.{IsBoundBy}
use Rattle.schema_serve.specs.Runs.{IsCutOff, listening_line, unsaid}
use Rattle.schema_serve.specs.declared.task.ServeTask.{ServeTask}
use Rattle.std.specs.declared.net.SocketAddr.{SocketAddr}

pub cut_in_line : (task : ServeTask) (bytes : List ℕ) (writes writes' : Writes) (address : SocketAddr) (fault : IoFault)
    → IsBoundBy task.listen.now address → bytes ≡ listening_line address
    → IsWriteRun {A = Unit {0}} writes writes' bytes (Err fault) → IsCutOff task writes writes' (of_exchange fault)
cut_in_line task bytes writes writes' address (io_fault.WriteFault written) bound said run =
    unsaid (None, refl) address bound written (rw said at run)
cut_in_line task bytes writes writes' address fault bound said run = absurd run
