-- What sources are compiled to.
use Rattle.std.specs.Prelude.{◌≡◌, ◌≤◌, List, [], length, map, All}
use Rattle.proto_desc.specs.declared.file.FileDesc.{FileDesc}
use Rattle.proto_base.specs.Limits.{limit_of}
use Rattle.proto_base.specs.declared.limits.Limit.TheVariants as limit
use Rattle.proto_base.specs.declared.limits.Limits.{Limits}
use Rattle.proto_compilation.specs.Compilation.{Compilation, file_bytes, file_name, set_of}
use Rattle.wire_bytes.specs.Descriptor.{file_desc_bytes}
use Rattle.proto_compile.specs.Analysed.{AreResolved}
use Rattle.proto_compile.specs.Sources.{name_of}
use Rattle.proto_compile.specs.declared.source.Source.{Source}

abbrev pub IsShort : Limits → FileDesc → Type 0
IsShort limits desc = length (file_desc_bytes desc) ≤ limit_of limits limit.DescriptorBytes

-- sources without a fault up to the lengths of their descriptors
pub record IsWritten (limits : Limits) (sources : List Source) (c : Compilation) : Type 0 where
  pub sorted : List Source
  pub descs : List FileDesc
  pub resolved : AreResolved limits sources sorted descs c.links c.index
  pub short : All (IsShort limits) descs
  pub names : map file_name c.files ≡ map name_of sorted
  pub bytes : map file_bytes c.files ≡ map file_desc_bytes descs
  pub no_extensions : c.extensions ≡ []
  pub same_limits : c.limits ≡ limits

-- sources without a fault
pub record IsCompiled (limits : Limits) (sources : List Source) (c : Compilation) : Type 0 where
  pub written : IsWritten limits sources c
  pub within : length (set_of c.files c.links) ≤ limit_of limits limit.SetBytes
