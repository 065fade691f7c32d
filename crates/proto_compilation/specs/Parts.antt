-- A compilation by its parts, as the program keeps them.
use Rattle.std.specs.Prelude.{ℕ, List, [], Vec, String, string_bytes}
use Rattle.std.specs.declared.alloc.Global.{Global}
use Rattle.proto_base.specs.declared.limits.Limits.{Limits}
use Rattle.proto_compilation.specs.Compilation.{Compilation, CompiledFile}
use Rattle.proto_compilation.specs.Extensions.{DeclaredExtension}
use Rattle.proto_compilation.specs.declared.extension.Extension.{Extension}
use Rattle.proto_links.specs.Linked.{Linked}
use Rattle.proto_names.specs.Index.{Index}

abbrev pub compiled_file : String Global × Vec ℕ Global → CompiledFile
compiled_file entry = record { name = string_bytes entry.0; bytes = entry.1.items }

abbrev pub declared_extension : Extension → DeclaredExtension
declared_extension e = record { message = string_bytes e.message; number = e.number; file = e.file }

abbrev pub extended : Limits → List CompiledFile → Linked → Index → List DeclaredExtension → Compilation
extended limits files links index extensions = record {
  files = files;
  links = links;
  index = index;
  extensions = extensions;
  limits = limits;
}

-- a compilation without extensions
abbrev pub compilation : Limits → List CompiledFile → Linked → Index → Compilation
compilation limits files links index = extended limits files links index []
