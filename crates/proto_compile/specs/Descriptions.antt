-- What sources describe, in the order of their names.
use Rattle.std.specs.Prelude.{◌≤◌, List, length}
use Rattle.std.specs.List.{AllZip}
use Rattle.proto_base.specs.Limits.{limit_of}
use Rattle.proto_base.specs.declared.limits.Limit.TheVariants as limit
use Rattle.proto_base.specs.declared.limits.Limits.{Limits}
use Rattle.proto_desc.specs.declared.file.FileDesc.{FileDesc}
use Rattle.proto_file.specs.Local.{Describes}
use Rattle.proto_compile.specs.Sources.{AreByName, name_of, text_of}
use Rattle.proto_compile.specs.declared.source.Source.{Source}

-- a source is a file without a fault of its own, and this is what it describes
abbrev pub SourceDescribes : Limits → Source → FileDesc → Type 0
SourceDescribes limits s desc = Describes limits (name_of s) (text_of s) desc

-- these are the sources by name, and what they describe, where none has a fault of its own
pub record Describe (limits : Limits) (sources files : List Source) (descs : List FileDesc) : Type 0 where
  pub few : length sources ≤ limit_of limits limit.Files
  pub by_name : AreByName sources files
  pub each : AllZip (SourceDescribes limits) files descs
