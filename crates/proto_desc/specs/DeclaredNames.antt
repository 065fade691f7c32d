-- The names that a descriptor declares, map entries and made oneofs among them, each in the scope in which it is
-- declared.
use Rattle.std.specs.Prelude.{ℕ, List, [], ◌∷◌, ◌++◌, map, flat_map, Option, None, Some}
use Rattle.proto_base.specs.declared.place.Place.{Place}
use Rattle.proto_desc.specs.declared.enumeration.EnumDesc.{EnumDesc}
use Rattle.proto_desc.specs.declared.enumeration.ValueDesc.{ValueDesc}
use Rattle.proto_desc.specs.declared.field.FieldDesc.{FieldDesc}
use Rattle.proto_desc.specs.declared.file.FileDesc.{FileDesc}
use Rattle.proto_desc.specs.declared.file.PackageDescriptor.{PackageDescriptor}
use Rattle.proto_desc.specs.declared.message.MessageDesc.{MessageDesc}
use Rattle.proto_desc.specs.declared.message.MessageDesc.TheOpen.{MessageDesc-F}
use Rattle.proto_desc.specs.declared.message.MessageDesc.TheFolds.{fold-MessageDesc}
use Rattle.proto_desc.specs.declared.name_kind.NameKind.{NameKind}
use Rattle.proto_desc.specs.declared.name_kind.NameKind.TheVariants as kind
use Rattle.proto_desc.specs.declared.oneof.OneofDesc.{OneofDesc}
use Rattle.proto_desc.specs.declared.service.MethodDesc.{MethodDesc}
use Rattle.proto_desc.specs.declared.service.ServiceDesc.{ServiceDesc}

-- a declared name; the scope is the full name of what it is declared in, and empty where that is the file itself
pub record Declared : Type 0 where
  pub scope : List ℕ
  pub name : List ℕ
  pub kind : NameKind
  pub place : Place

-- a name in a scope
abbrev pub scoped : List ℕ → List ℕ → List ℕ
scoped [] name = name
scoped (c ∷ cs) name = (c ∷ cs) ++ 46 ∷ name

abbrev pub full_name : Declared → List ℕ
full_name d = scoped d.scope d.name

abbrev pub declared_field : List ℕ → FieldDesc → Declared
declared_field scope f = record { scope = scope; name = f.name; kind = kind.Field; place = f.place }

abbrev pub declared_oneof : List ℕ → OneofDesc → Declared
declared_oneof scope o = record { scope = scope; name = o.name; kind = kind.Oneof; place = o.place }

abbrev pub declared_value : List ℕ → ValueDesc → Declared
declared_value scope v = record { scope = scope; name = v.name; kind = kind.Value; place = v.place }

-- an enum and its values, which are declared in the scope of the enum
abbrev pub declared_by_enum : List ℕ → EnumDesc → List Declared
declared_by_enum scope e =
    record { scope = scope; name = e.name; kind = kind.Enum; place = e.place } ∷ map (declared_value scope) e.values

-- what stands in a message of this full name, with what each nested one declares by its scope
abbrev pub declared_inside : List ℕ → MessageDesc-F (List ℕ → List Declared) → List Declared
declared_inside full m =
    map (declared_field full) m.fields ++ map (declared_oneof full) m.oneofs ++ flat_map (declared_by_enum full) m.enums
    ++ flat_map (λ nested. nested full) m.nested

abbrev pub declared_step : MessageDesc-F (List ℕ → List Declared) → List ℕ → List Declared
declared_step m scope = record { scope = scope; name = m.name; kind = kind.Message; place = m.place }
    ∷ declared_inside (scoped scope m.name) m

abbrev pub declared_by_message : MessageDesc → List ℕ → List Declared
declared_by_message = fold-MessageDesc (List ℕ → List Declared) declared_step

abbrev pub declared_method : List ℕ → MethodDesc → Declared
declared_method scope m = record { scope = scope; name = m.name; kind = kind.Method; place = m.place }

abbrev pub declared_by_service : List ℕ → ServiceDesc → List Declared
declared_by_service scope s = record { scope = scope; name = s.name; kind = kind.Service; place = s.place }
    ∷ map (declared_method (scoped scope s.name)) s.methods

-- the scope of what stands at the top of a file
abbrev pub file_scope : Option PackageDescriptor → List ℕ
file_scope None = []
file_scope (Some p) = p.name

abbrev pub declared_in : List ℕ → FileDesc → List Declared
declared_in scope f =
    flat_map (λ m. declared_by_message m scope) f.messages ++ flat_map (declared_by_enum scope) f.enums
    ++ flat_map (declared_by_service scope) f.services

abbrev pub declared_by : FileDesc → List Declared
declared_by f = declared_in (file_scope f.«package») f
