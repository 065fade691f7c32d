-- The bytes of a reply, by `ServerReflectionResponse` of `grpc.reflection.v1`, `reflection.proto`.
use Rattle.std.specs.Prelude.{ℕ, List, [], ◌∷◌, ◌++◌, flat_map, codes}
use Rattle.proto_compilation.specs.Compilation.{Compilation, bytes_at}
use Rattle.proto_compilation.specs.Extensions.{numbers_of}
use Rattle.reflect_core.specs.Answer.{Answer, file, extensions, services, not_found, empty_request}
use Rattle.wire_format.specs.Field.{number_field, bytes_field}
use Rattle.wire_format.specs.Varint.{varint_bytes}

-- a request of a stream: its message as it came, the host that it names, and what answers it
pub record Asked : Type 0 where
  pub message : List ℕ
  pub host : List ℕ
  pub answer : Answer

-- `valid_host` = 1, left out where it is empty
abbrev pub host_field : List ℕ → List ℕ
host_field [] = []
host_field (x ∷ xs) = bytes_field 1 (x ∷ xs)

-- `FileDescriptorResponse`: `file_descriptor_proto` = 1 for each file
abbrev pub files_bytes : Compilation → List ℕ → List ℕ
files_bytes c files = flat_map (λ a. bytes_field 1 (bytes_at c.files a)) files

-- `ListServiceResponse`: `service` = 1 for each, a `ServiceResponse` with its `name` = 1
abbrev pub services_bytes : Compilation → List ℕ
services_bytes c = flat_map (λ name. bytes_field 1 (bytes_field 1 name)) c.index.services

-- `ExtensionNumberResponse`: `base_type_name` = 1, and `extension_number` = 2, packed, left out where there is none
abbrev pub packed : List ℕ → List ℕ
packed [] = []
packed (n ∷ ns) = bytes_field 2 (flat_map varint_bytes (n ∷ ns))

abbrev pub extensions_bytes : Compilation → List ℕ → List ℕ
extensions_bytes c name = bytes_field 1 name ++ packed (numbers_of c.extensions name)

-- `ErrorResponse`: `error_code` = 1, `error_message` = 2
abbrev pub error_bytes : ℕ → List ℕ → List ℕ
error_bytes code message = number_field 1 code ++ bytes_field 2 message

-- the member of the oneof `message_response` that holds the answer: `file_descriptor_response` = 4,
-- `all_extension_numbers_response` = 5,
-- `list_services_response` = 6, `error_response` = 7
abbrev pub member_of : Answer → ℕ
member_of (file a) = 4
member_of (extensions name) = 5
member_of services = 6
member_of not_found = 7
member_of empty_request = 7

-- what the member holds; the codes are gRPC's NOT_FOUND and INVALID_ARGUMENT
abbrev pub contents_of : Compilation → List ℕ → Answer → List ℕ
contents_of c files (file a) = files_bytes c files
contents_of c files (extensions name) = extensions_bytes c name
contents_of c files services = services_bytes c
contents_of c files not_found = error_bytes 5 (codes "not found")
contents_of c files empty_request = error_bytes 3 (codes "empty request")

-- a reply that carries these files: `original_request` = 2 is the message as it came
abbrev pub reply : Compilation → Asked → List ℕ → List ℕ
reply c asked files = host_field asked.host ++ bytes_field 2 asked.message
    ++ bytes_field (member_of asked.answer) (contents_of c files asked.answer)
