-- The descriptor of a file, by equations on the statements of its tree.
use Rattle.std.specs.Prelude.{ℕ, List, [], ◌∷◌, map, flat_map, slice_get, Option, Some, None}
use Rattle.std.specs.Option.{option_map, is_some}
use Rattle.proto_tree.specs.declared.file.FileTree.{FileTree}
use Rattle.proto_tree.specs.declared.file.Import.{Import}
use Rattle.proto_tree.specs.declared.file.Package.{Package}
use Rattle.proto_tree.specs.declared.file.Statement.{Statement}
use Rattle.proto_tree.specs.declared.file.Statement.TheVariants as statement
use Rattle.proto_desc.specs.declared.file.FileDesc.{FileDesc}
use Rattle.proto_desc.specs.declared.file.ImportDescriptor.{ImportDescriptor}
use Rattle.proto_desc.specs.declared.file.PackageDescriptor.{PackageDescriptor}
use Rattle.proto_desc.specs.declared.rules.Element.TheVariants as element
use Rattle.proto_lower.specs.Enums.{lowered_enum}
use Rattle.proto_lower.specs.Messages.{lowered_message}
use Rattle.proto_options.specs.Options.{file_setting}
use Rattle.proto_options.specs.Statements.{file_package, file_message, file_enum, file_service}
use Rattle.proto_lower.specs.Options.{options_of}
use Rattle.proto_lower.specs.Services.{lowered_service}
use Rattle.proto_tree.specs.Text.{dotted, joined}

abbrev pub package_descriptor : Package → PackageDescriptor
package_descriptor p = record { name = dotted p.name; place = p.name.first.span.start }

-- of several package statements the first counts
abbrev pub package_of : List Statement → Option PackageDescriptor
package_of ss = option_map package_descriptor (slice_get (flat_map file_package ss) 0)

-- the full name, behind a leading dot, of what is around the top of a file
abbrev pub package_scope : Option PackageDescriptor → List ℕ
package_scope None = []
package_scope (Some p) = 46 ∷ p.name

abbrev pub import_descriptor : Import → ImportDescriptor
import_descriptor i = record { path = joined i.path; place = i.path.first.span.start; is_public = is_some i.public }

abbrev pub import_of : Statement → List ImportDescriptor
import_of (statement.Import i) = import_descriptor i ∷ []
import_of s = []

-- the descriptor of a file of this name
abbrev pub lowered : List ℕ → FileTree → FileDesc
lowered file_name file = record {
  name = file_name;
  «package» = package_of file.statements;
  imports = flat_map import_of file.statements;
  messages = map (lowered_message (package_scope (package_of file.statements))) (flat_map file_message file.statements);
  enums = map lowered_enum (flat_map file_enum file.statements);
  services = map lowered_service (flat_map file_service file.statements);
  options = options_of element.File (flat_map file_setting file.statements);
}
