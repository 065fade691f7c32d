-- Descriptors that can be read where they are written: names are UTF-8, numbers are below 2 ^ 64, and no more elements
-- than there is room for stand within one another, each element itself among them.
use Rattle.std.specs.Prelude.{◌≢◌, ℕ, zero, suc, ◌<◌, ◌^◌, List, [], IfSome, IsUtf8}
use Rattle.std.specs.List.{AllByRecursion}
use Rattle.proto_desc.specs.DeclaredNames.{file_scope}
use Rattle.proto_desc.specs.declared.enumeration.EnumDesc.{EnumDesc}
use Rattle.proto_desc.specs.declared.enumeration.ValueDesc.{ValueDesc}
use Rattle.proto_desc.specs.declared.field.FieldDesc.{FieldDesc}
use Rattle.proto_desc.specs.declared.file.FileDesc.{FileDesc}
use Rattle.proto_desc.specs.declared.file.ImportDescriptor.{ImportDescriptor}
use Rattle.proto_desc.specs.declared.message.MessageDesc.{MessageDesc}
use Rattle.proto_desc.specs.declared.message.MessageDesc.TheViews.{out-MessageDesc}
use Rattle.proto_desc.specs.declared.oneof.OneofDesc.{OneofDesc}
use Rattle.proto_desc.specs.declared.service.MethodDesc.{MethodDesc}
use Rattle.proto_desc.specs.declared.service.ServiceDesc.{ServiceDesc}
use Rattle.wire_bytes.specs.Descriptor.{low_bits}

-- a text that is not empty
pub record IsName (text : List ℕ) : Type 0 where
  pub some : text ≢ []
  pub utf8 : IsUtf8 text

pub record FieldFits (room : ℕ) (f : FieldDesc) : Type 0 where
  pub some : 0 < room
  pub name : IsUtf8 f.name
  pub number : f.number < 2 ^ 64
  pub index : IfSome f.oneof_index (λ i. i < 2 ^ 64)

pub record OneofFits (room : ℕ) (o : OneofDesc) : Type 0 where
  pub some : 0 < room
  pub name : IsUtf8 o.name

pub record ValueFits (room : ℕ) (v : ValueDesc) : Type 0 where
  pub some : 0 < room
  pub name : IsUtf8 v.name
  pub number : low_bits v.number < 2 ^ 64

pub record MethodFits (room : ℕ) (m : MethodDesc) : Type 0 where
  pub some : 0 < room
  pub name : IsUtf8 m.name

-- what stands in an enum, a service or a message, and its own name
pub record EnumBodyFits (room : ℕ) (e : EnumDesc) : Type 0 where
  pub name : IsUtf8 e.name
  pub values : AllByRecursion (ValueFits room) e.values

abbrev pub EnumFits : ℕ → EnumDesc → Type 0
EnumFits zero e = ⊥
EnumFits (suc room) e = EnumBodyFits room e

pub record ServiceBodyFits (room : ℕ) (s : ServiceDesc) : Type 0 where
  pub name : IsUtf8 s.name
  pub methods : AllByRecursion (MethodFits room) s.methods

abbrev pub ServiceFits : ℕ → ServiceDesc → Type 0
ServiceFits zero s = ⊥
ServiceFits (suc room) s = ServiceBodyFits room s

pub record MessageBodyFits (Nested : MessageDesc → Type 0) (room : ℕ) (m : MessageDesc) : Type 0 where
  pub name : IsUtf8 (out-MessageDesc m).name
  pub fields : AllByRecursion (FieldFits room) (out-MessageDesc m).fields
  pub nested : AllByRecursion Nested (out-MessageDesc m).nested
  pub enums : AllByRecursion (EnumFits room) (out-MessageDesc m).enums
  pub oneofs : AllByRecursion (OneofFits room) (out-MessageDesc m).oneofs

abbrev pub MessageFits : ℕ → MessageDesc → Type 0
MessageFits zero m = ⊥
MessageFits (suc room) m = MessageBodyFits (MessageFits room) room m

abbrev pub ImportFits : ImportDescriptor → Type 0
ImportFits i = IsUtf8 i.path

-- a file, which has a name
pub record FileFits (depth : ℕ) (f : FileDesc) : Type 0 where
  pub name : IsName f.name
  pub own : IsUtf8 (file_scope f.«package»)
  pub imports : AllByRecursion ImportFits f.imports
  pub messages : AllByRecursion (MessageFits depth) f.messages
  pub enums : AllByRecursion (EnumFits depth) f.enums
  pub services : AllByRecursion (ServiceFits depth) f.services
