-- Sources of which the set can be read, and the limits of readers that can read it.
use Rattle.std.specs.Prelude.{◌≤◌}
use Rattle.proto_base.specs.Limits.{limit_of}
use Rattle.proto_base.specs.declared.limits.Limit.TheVariants as limit
use Rattle.proto_base.specs.declared.limits.Limits.{Limits}
use Rattle.proto_compile.specs.Sources.{name_of}
use Rattle.proto_compile.specs.declared.source.Source.{Source}
use Rattle.set_round_trip.specs.Fits.{IsName}

-- a source has a name; its type, `&str`, says that this is UTF-8
abbrev pub HasName : Source → Type 0
HasName s = IsName (name_of s)

-- of the limits that the reader of a set judges, none is lower than that of the compiler
pub record AreNoLower (reader compiler : Limits) : Type 0 where
  pub set_bytes : limit_of compiler limit.SetBytes ≤ limit_of reader limit.SetBytes
  pub files : limit_of compiler limit.Files ≤ limit_of reader limit.Files
  pub depth : limit_of compiler limit.Depth ≤ limit_of reader limit.Depth
  pub names : limit_of compiler limit.Names ≤ limit_of reader limit.Names
  pub full_name_bytes : limit_of compiler limit.FullNameBytes ≤ limit_of reader limit.FullNameBytes
