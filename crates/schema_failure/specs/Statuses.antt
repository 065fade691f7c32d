-- What a run that ends early exits with (README.md, "Commands").
use Rattle.std.specs.Prelude.{ℕ, Result, Ok, Err}
use Rattle.schema_failure.specs.declared.failure.Failure.{Failure}
use Rattle.schema_failure.specs.declared.failure.Failure.TheVariants as failure
use Rattle.schema_failure.specs.declared.failure.ExitStatus.{ExitStatus}
use Rattle.schema_failure.specs.declared.failure.Verdict.{Verdict}
use Rattle.schema_failure.specs.declared.failure.Verdict.TheVariants as verdict
use Rattle.schema_failure.specs.declared.failure.ExitStatus.TheVariants as status

-- a fault of the sources or of a set, a device that failed, or no memory
abbrev pub status_of : Failure → ExitStatus
status_of (failure.Source file line column kind) = status.Fault
status_of (failure.Set file kind) = status.Fault
status_of (failure.Folder entry) = status.Device
status_of (failure.Device device error) = status.Device
status_of failure.NoMemory = status.NoMemory

-- the exit status
abbrev pub code_of : ExitStatus → ℕ
code_of status.Done = 0
code_of status.Fault = 1
code_of status.CommandLine = 2
code_of status.Device = 3
code_of status.NoMemory = 4

-- a run that came to its end is done, unless it found faults; and one that failed ends with the status of its failure
abbrev pub status_after : Result Verdict Failure → ExitStatus
status_after (Ok verdict.Sound) = status.Done
status_after (Ok verdict.Faulty) = status.Fault
status_after (Err failure) = status_of failure
