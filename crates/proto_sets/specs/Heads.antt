-- What the fields of a file's descriptor say of the file itself: its name, its package, and what it imports. Numbers are those
-- of the fields of `FileDescriptorProto`.
use Rattle.std.specs.Prelude.{◌≡◌, ℕ, ◌+◌, List, [], ◌∷◌, ◌==◌, Option, Some, None, IsUtf8}
use Rattle.std.specs.List.{AllByRecursion, filter_map, list_any}
use Rattle.proto_desc.specs.declared.file.FileDesc.{FileDesc}
use Rattle.proto_desc.specs.declared.file.ImportDescriptor.{ImportDescriptor}
use Rattle.proto_desc.specs.declared.file.PackageDescriptor.{PackageDescriptor}
use Rattle.proto_sets.specs.Elements.{number_in, text_in, text_of}
use Rattle.proto_sets.specs.Says.{start}
use Rattle.wire_format.specs.Reading.{Value}

-- `package` = 2, none where it is left out or empty
abbrev pub package_by : List ℕ → Option PackageDescriptor
package_by [] = None
package_by (c ∷ cs) = Some (record { name = c ∷ cs; place = start })

-- each `dependency` = 3, publicly where its position is a `public_dependency` = 10
abbrev pub imports_from : List ℕ → ℕ → List (List ℕ) → List ImportDescriptor
imports_from publics k [] = []
imports_from publics k (path ∷ paths) =
    record { path = path; place = start; is_public = list_any (λ p. p == k) publics } ∷ imports_from publics (k + 1) paths

abbrev pub paths_of : List (ℕ × Value) → List (List ℕ)
paths_of fields = filter_map (text_in 3) fields

-- the head of a file: all of its descriptor but what it declares, and its options
pub record IsHead (fields : List (ℕ × Value)) (head : FileDesc) : Type 0 where
  pub name : head.name ≡ text_of 1 fields
  pub name_utf8 : IsUtf8 (text_of 1 fields)
  pub of_package : head.«package» ≡ package_by (text_of 2 fields)
  pub package_utf8 : IsUtf8 (text_of 2 fields)
  pub imports : head.imports ≡ imports_from (filter_map (number_in 10) fields) 0 (paths_of fields)
  pub paths_utf8 : AllByRecursion IsUtf8 (paths_of fields)
  pub no_message : head.messages ≡ []
  pub no_enum : head.enums ≡ []
  pub no_service : head.services ≡ []
  pub no_option : head.options ≡ []
