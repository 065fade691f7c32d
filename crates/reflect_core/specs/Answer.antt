-- What answers a request of a reflection stream, by `reflection.proto` of `grpc.reflection.v1`.
use Rattle.std.specs.Prelude.{◌≡◌, ℕ, List, Option, Some, None, Contains}
use Rattle.proto_compilation.specs.Compilation.{Compilation, IsNamed}
use Rattle.proto_compilation.specs.Extensions.{DeclaredExtension}
use Rattle.proto_desc.specs.declared.name_kind.NameKind.TheVariants as kind
use Rattle.proto_names.specs.Occurrences.{Occurrence, IsPackage}
use Rattle.reflect_requests.specs.Request.{Ask, file_by_name, file_by_symbol, file_by_extension, extension_numbers, list_services, nothing}

-- what answers a request: a file with what it reaches, the numbers of a message's extensions, the services, or an error
pub data Answer : Type 0 where
  file : ℕ → Answer
  extensions : List ℕ → Answer
  services : Answer
  not_found : Answer
  empty_request : Answer

-- an element, which is no package, has this full name
pub record Declares (c : Compilation) (name : List ℕ) (o : Occurrence) : Type 0 where
  pub declared : Contains c.index.occurrences o
  pub named : o.name ≡ name
  pub element : IsPackage o → ⊥

-- an extension of the message of this full name has this number
pub record Extends (c : Compilation) (name : List ℕ) (n : ℕ) (e : DeclaredExtension) : Type 0 where
  pub declared : Contains c.extensions e
  pub message : e.message ≡ name
  pub numbered : e.number ≡ n

-- the answer to an ask
pub data IsAnswer (c : Compilation) : Ask → Answer → Type 0 where
  named : (name : List ℕ) (a : ℕ) → IsNamed c.files name a → IsAnswer c (file_by_name name) (file a)
  not_named : (name : List ℕ) → ((a : ℕ) → IsNamed c.files name a → ⊥) → IsAnswer c (file_by_name name) not_found
  declared : (name : List ℕ) (o : Occurrence) → Declares c name o → IsAnswer c (file_by_symbol name) (file o.file)
  not_declared : (name : List ℕ) → ((o : Occurrence) → Declares c name o → ⊥)
      → IsAnswer c (file_by_symbol name) not_found
  extended : (name : List ℕ) (n : ℕ) (e : DeclaredExtension) → Extends c name n e
      → IsAnswer c (file_by_extension name n) (file e.file)
  not_extended : (name : List ℕ) (n : ℕ) → ((e : DeclaredExtension) → Extends c name n e → ⊥)
      → IsAnswer c (file_by_extension name n) not_found
  message : (name : List ℕ) (o : Occurrence) → Declares c name o → o.kind ≡ Some kind.Message
      → IsAnswer c (extension_numbers name) (extensions name)
  no_message : (name : List ℕ) → ((o : Occurrence) → Declares c name o → o.kind ≡ Some kind.Message → ⊥)
      → IsAnswer c (extension_numbers name) not_found
  listed : IsAnswer c list_services services
  nothing_asked : IsAnswer c nothing empty_request

-- the file that a request is answered with
abbrev pub root_of : Answer → Option ℕ
root_of (file a) = Some a
root_of (extensions name) = None
root_of services = None
root_of not_found = None
root_of empty_request = None
