-- What a run did, and what it ended with.
use Rattle.std.specs.Prelude.{◌≡◌, ℕ, ◌*◌, ◌≤◌, List, Option, Some, None, IfSome, Result, Ok, Err, option_map}
use Rattle.std.specs.Duration.{as_nanos}
use Rattle.clap.specs.declared.parser.matches.ArgMatches.{ArgMatches}
use Rattle.first_reach.specs.declared.mode.Mode.{Mode}
use Rattle.counted_io.specs.Runs.{IsWritten, IsWrittenInPart}
use Rattle.counted_io.specs.Streams.{Reads, Writes}
use Rattle.grpcweb_service.specs.declared.service.EndedService.{EndedService}
use Rattle.http_connection.specs.declared.options.ServeOptions.{ServeOptions}
use Rattle.schema_check.specs.Runs.{IsFolderCheck}
use Rattle.schema_command_line.specs.Tasks.{IsAsked}
use Rattle.schema_command_line.specs.declared.task.Asked.{Asked}
use Rattle.schema_command_line.specs.declared.task.Origin.{Origin}
use Rattle.schema_command_line.specs.declared.task.Origin.TheVariants as origin
use Rattle.schema_command_line.specs.declared.task.Service.{Service}
use Rattle.schema_command_line.specs.declared.task.Task.{Task}
use Rattle.schema_command_line.specs.declared.task.Task.TheVariants as task
use Rattle.schema_commands.specs.Runs.{IsAnswerRun, IsCompileRun, IsDescribeRun, IsExplainRun, IsSetAnswerRun}
use Rattle.schema_failure.specs.Statuses.{code_of, status_after}
use Rattle.schema_failure.specs.declared.failure.Failure.{Failure}
use Rattle.schema_failure.specs.declared.failure.ExitStatus.{ExitStatus}
use Rattle.schema_failure.specs.declared.failure.ExitStatus.TheVariants as status
use Rattle.schema_failure.specs.declared.failure.Verdict.{Verdict}
use Rattle.schema_failure.specs.declared.failure.Verdict.TheVariants as verdict
use Rattle.schema_serve.specs.Runs.{IsServeRun, IsSetServeRun, end_of_run}
use Rattle.schema_serve.specs.declared.task.ServeTask.{ServeTask}
use Rattle.schema_sources.specs.Texts.{unknown}
use Rattle.share_work.specs.declared.plan.Plan.{Plan}

-- a command that gives no verdict ended so, and where it came to its end the sources have no fault
abbrev pub EndsSound : (Result (Unit {0}) Failure → Type 0) → Result Verdict Failure → Type 0
EndsSound P (Ok verdict.Sound) = P (Ok tt)
EndsSound P (Ok verdict.Faulty) = ⊥
EndsSound P (Err failure) = P (Err failure)

abbrev pub sound_of : Result (Unit {0}) Failure → Result Verdict Failure
sound_of (Ok a) = Ok verdict.Sound
sound_of (Err failure) = Err failure

-- how many clients are served at once, and how long each may take, are as the words say
pub record AreOptionsOf (service : Service) (options : ServeOptions) : Type 0 where
  pub clients : options.clients ≡ service.clients
  pub client_time : option_map as_nanos options.client_time ≡ option_map (λ n. n * 1_000_000_000) service.client_seconds

-- it is what the words ask to serve
pub record IsServeTask (service : Service) (p : Plan) (m : Mode) (asked : ServeTask) : Type 0 where
  pub listen : asked.listen.now ≡ service.listen.now
  pub plan : asked.plan ≡ p
  pub mode : asked.mode ≡ m
  pub options : 1 ≤ service.clients → service.clients ≤ 1024 → AreOptionsOf service asked.options
  pub connections : asked.connections ≡ service.connections

-- what serving, and answering, from sources of a folder or from a set did; what the folder has is not known
abbrev pub IsServeFrom : Origin → ServeTask → Writes → Writes → Result EndedService Failure → Type 0
IsServeFrom (origin.Sources selection) = IsServeRun (unknown selection.custom_options)
IsServeFrom (origin.Set path) = IsSetServeRun path.now

abbrev pub IsAnswerFrom : {A : Type 0} → Origin → Mode → Reads → Reads → Writes → Writes → Result A Failure → Type 0
IsAnswerFrom (origin.Sources selection) = IsAnswerRun (unknown selection.custom_options)
IsAnswerFrom (origin.Set path) = IsSetAnswerRun path.now

-- what a task read and wrote, by how it ended
abbrev pub IsPerformed : Task → Reads → Reads → Writes → Writes → Result Verdict Failure → Type 0
IsPerformed (task.Compile selection plan file dependencies) reads reads' writes writes' =
    EndsSound (λ done. IsCompileRun (unknown selection.custom_options) file writes writes' done)
IsPerformed (task.Check selection plan form) reads reads' writes writes' =
    λ done. IsFolderCheck (unknown selection.custom_options) form selection.root.now writes writes' done
IsPerformed (task.Serve from service plan mode) reads reads' writes writes' =
    EndsSound (λ done. (asked : ServeTask) × IsServeTask service plan mode asked × (run : Result EndedService Failure)
    × IsServeFrom from asked writes writes' run × (done ≡ end_of_run run))
IsPerformed (task.Answer from plan mode) reads reads' writes writes' =
    EndsSound (λ done. IsAnswerFrom from mode reads reads' writes writes' done)
IsPerformed (task.Describe name) reads reads' writes writes' =
    EndsSound (λ done. IsDescribeRun name.now reads reads' writes writes' done)
IsPerformed (task.Explain topic) reads reads' writes writes' =
    EndsSound (λ done. IsExplainRun topic writes writes' done)

-- the words were no task: a text was written, as help is; or the command line is wrong, or memory was short, and
-- nothing was
-- written; or a call of the writer failed
abbrev pub IsUsageRun : Writes → Writes → ExitStatus → Type 0
IsUsageRun writes writes' status.Done = (text : List ℕ) × IsWritten writes writes' text
IsUsageRun writes writes' status.Fault = ⊥
IsUsageRun writes writes' status.CommandLine = writes' ≡ writes
IsUsageRun writes writes' status.Device = (text : List ℕ) × (written : ℕ) × IsWrittenInPart writes writes' text written
IsUsageRun writes writes' status.NoMemory = writes' ≡ writes

-- what became of what the words ask for: a task was performed, and the status is that of how it ended; or they ask for
-- none
abbrev pub IsEndOf : Option Asked → Reads → Reads → Writes → Writes → ExitStatus → Type 0
IsEndOf (Some asked) reads reads' writes writes' ended =
    (done : Result Verdict Failure) × IsPerformed asked.task reads reads' writes writes' done × (ended ≡ status_after done)
IsEndOf None reads reads' writes writes' ended = IsUsageRun writes writes' ended

-- a run, by the number that it ends with; its task is one that the parser found in the words
pub record IsRun (reads reads' : Reads) (writes writes' : Writes) (code : ℕ) : Type 0 where
  pub asked : Option Asked
  pub found : IfSome asked (λ one. (matches : ArgMatches) × IsAsked matches one)
  pub ended : ExitStatus
  pub run : IsEndOf asked reads reads' writes writes' ended
  pub number : code ≡ code_of ended
