-- What a run of `serve` wrote and served, by how it ended.
use Rattle.std.specs.Arc.{arc_value}
use Rattle.std.specs.Net.Text.{socket_text}
use Rattle.std.specs.Prelude.{◌≡◌, ℕ, List, ◌++◌, ◌⊎◌, codes, Option, Result, Ok, Err, IsErrAnd}
use Rattle.std.specs.declared.io.Error.{Error}
use Rattle.std.specs.declared.net.SocketAddr.{SocketAddr}
use Rattle.counted_io.specs.Runs.{IsWritten, IsWrittenInPart}
use Rattle.counted_io.specs.Streams.{Writes}
use Rattle.grpcweb_service.specs.Services.{HasServed}
use Rattle.grpcweb_service.specs.declared.service.EndedService.{EndedService}
use Rattle.grpcweb_service.specs.declared.service.ReflectionService.{ReflectionService}
use Rattle.http_connection.specs.declared.serve_fault.ServeFault.{ServeFault}
use Rattle.http_connection.specs.declared.serve_fault.ServeFault.TheVariants as serve_fault
use Rattle.http_connection.specs.declared.trouble.ServeTrouble.{ServeTrouble}
use Rattle.proto_base.specs.declared.limits.Limits.{Limits}
use Rattle.proto_compilation.specs.Compilation.{Compilation}
use Rattle.schema_compile.specs.Compiled.{IsCompiledTo}
use Rattle.schema_compile.specs.Told.{IsToldOfFolder}
use Rattle.schema_failure.specs.Faults.{IsOfDevice}
use Rattle.schema_failure.specs.declared.failure.Device.TheVariants as device
use Rattle.schema_failure.specs.declared.failure.Failure.{Failure}
use Rattle.schema_failure.specs.declared.failure.Failure.TheVariants as failure
use Rattle.schema_serve.specs.Bound.{IsBoundBy}
use Rattle.schema_serve.specs.declared.task.ServeTask.{ServeTask}
use Rattle.schema_set.specs.Sets.{IsOfSomeSet, IsToldOfSet}
use Rattle.schema_sources.specs.Texts.{AreStandard, KnownSources}

-- the line that says where it listens
abbrev pub listening_line : SocketAddr → List ℕ
listening_line address = codes "listening on " ++ (socket_text address ++ codes "\n")

-- the failure that ends a service, with what the system said
abbrev pub of_service_fault : ServeFault → Option Error → Failure
of_service_fault serve_fault.AcceptFault error = failure.Device device.Accept error
of_service_fault serve_fault.NoMemory error = failure.NoMemory

abbrev pub of_service : ServeTrouble → Failure
of_service trouble = of_service_fault trouble.fault trouble.error

-- how a run ended, and its service with it
abbrev pub of_end : {A : Type 0} → Result A ServeTrouble → Result (Unit {0}) Failure
of_end (Ok count) = Ok tt
of_end (Err trouble) = Err (of_service trouble)

abbrev pub end_of_run : Result EndedService Failure → Result (Unit {0}) Failure
end_of_run (Ok ended) = of_end ended.end
end_of_run (Err f) = Err f

-- the service of a compilation that a task asks for
pub record IsServiceOf (c : Compilation) (task : ServeTask) (service : ReflectionService) : Type 0 where
  pub compilation : arc_value service.compiled ≡ c
  pub mode : service.mode ≡ task.mode
  pub options : service.options ≡ task.options
  pub connections : service.connections ≡ task.connections

-- the line was written, once, with the address at which the service of the compilation was then served
abbrev pub IsServed : Compilation → ServeTask → Writes → Writes → EndedService → Type 0
IsServed c task writes writes' ended =
    (service : ReflectionService) × IsServiceOf c task service
    × (address : SocketAddr) × IsBoundBy task.listen.now address × IsWritten writes writes' (listening_line address)
    × HasServed service address ended

-- it failed before the line, in it, or for want of memory behind it, before the first connection
pub data IsCutOff (task : ServeTask) (writes writes' : Writes) (f : Failure) : Type 0 where
  unheard : IsOfDevice device.Listen f ⊎ (f ≡ failure.NoMemory) → writes' ≡ writes → IsCutOff task writes writes' f
  unsaid : IsOfDevice device.Output f → (address : SocketAddr) → IsBoundBy task.listen.now address → (written : ℕ)
      → IsWrittenInPart writes writes' (listening_line address) written → IsCutOff task writes writes' f
  unbegun : f ≡ failure.NoMemory → (address : SocketAddr) → IsBoundBy task.listen.now address
      → IsWritten writes writes' (listening_line address) → IsCutOff task writes writes' f

-- a compilation was served, as a task asks for it; or it was not
abbrev pub IsService : Compilation → ServeTask → Writes → Writes → Result EndedService Failure → Type 0
IsService c task writes writes' (Ok ended) = IsServed c task writes writes' ended
IsService c task writes writes' (Err f) = IsCutOff task writes writes' f

-- `serve` over a compilation of which this is so: it is there, and then it is served; or it is told why there is none,
-- and nothing is written
abbrev pub IsServeOver : (Limits → Compilation → Type 0) → (Limits → Failure → Type 0) → ServeTask → Writes → Writes
    → Result EndedService Failure → Type 0
IsServeOver IsMade IsTold task writes writes' done =
    (limits : Limits) × AreStandard limits
    × (IsErrAnd done (λ f. IsTold limits f × (writes' ≡ writes))
    ⊎ ((c : Compilation) × IsMade limits c × IsService c task writes writes' done))

-- over what the folder's texts are compiled to, or their first fault
abbrev pub IsServeRun : KnownSources → ServeTask → Writes → Writes → Result EndedService Failure → Type 0
IsServeRun known = IsServeOver (λ limits c. IsCompiledTo limits known c) (λ limits f. IsToldOfFolder limits known f)

-- over what the set at a path says, or its first fault
abbrev pub IsSetServeRun : List ℕ → ServeTask → Writes → Writes → Result EndedService Failure → Type 0
IsSetServeRun path = IsServeOver IsOfSomeSet (λ limits f. IsToldOfSet limits path f)
