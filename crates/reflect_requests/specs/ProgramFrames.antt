-- The requests, messages and statuses of the program.
use Rattle.std.specs.Prelude.{ℕ, List}
use Rattle.reflect_requests.specs.declared.frames.Message.{Message}
use Rattle.reflect_requests.specs.declared.frames.Status.{Status}
use Rattle.reflect_requests.specs.declared.frames.Status.TheVariants as status
use Rattle.reflect_requests.specs.Request.{ReadsRequest, Ask, file_by_name, file_by_symbol, file_by_extension, extension_numbers, list_services, nothing}
use Rattle.reflect_requests.specs.declared.request.Ask as rust
use Rattle.reflect_requests.specs.declared.request.Ask.TheVariants as ask

-- an ask of the program
abbrev pub ask_of : rust.Ask → Ask
ask_of (ask.FileByName name) = file_by_name name.now
ask_of (ask.FileBySymbol symbol) = file_by_symbol symbol.now
ask_of (ask.FileByExtension containing_type number) = file_by_extension containing_type.now number
ask_of (ask.ExtensionNumbers name) = extension_numbers name.now
ask_of ask.ListServices = list_services
ask_of ask.Nothing = nothing

-- the number of a status, as gRPC has it
abbrev pub status_number : Status → ℕ
status_number status.Ok = 0
status_number status.InvalidArgument = 3
status_number status.ResourceExhausted = 8
status_number status.Unimplemented = 12
status_number status.Internal = 13

-- the bytes of a message of the program, and that its request is what they say
abbrev pub bytes_of : Message → List ℕ
bytes_of message = message.bytes.now

abbrev pub Reads : Message → Type 0
Reads message = ReadsRequest message.bytes.now message.request.host.now (ask_of message.request.ask)
