-- What is so of each compilation.
use Rattle.std.specs.Prelude.{◌≡◌, ℕ, ◌<◌, ◌≤◌, ◌^◌, List, length, map, Contains}
use Rattle.proto_base.specs.Limits.{limit_of}
use Rattle.proto_base.specs.NameOrder.{NamesRise}
use Rattle.proto_base.specs.declared.limits.Limit.TheVariants as limit
use Rattle.proto_compilation.specs.Compilation.{Compilation, file_name, set_of}
use Rattle.proto_compilation.specs.Extensions.{DeclaredExtension, ExtensionsRise}
use Rattle.proto_links.specs.Linked.{count_of}
use Rattle.proto_links.specs.Whole.{AreReachesWhole}
use Rattle.proto_names.specs.Index as names
use Rattle.proto_names.specs.Repeated.{AreDeclaredOnce}

-- an extension in one of so many files, with a number of 32 bits
pub record IsExtensionWithin (count : ℕ) (e : DeclaredExtension) : Type 0 where
  pub inside : e.file < count
  pub small : e.number < 2 ^ 32

-- files whose names rise, their links, the index of their names, and extensions that rise, within the limits
pub record IsCoherent (c : Compilation) : Type 0 where
  pub few : length c.files ≤ limit_of c.limits limit.Files
  pub rises : NamesRise (map file_name c.files)
  pub linked : count_of c.links ≡ length c.files
  pub reaches : AreReachesWhole c.links
  pub indexed : c.index.files ≡ length c.files
  pub names : names.IsSound c.index
  pub declared : AreDeclaredOnce c.index
  pub few_services : length c.index.services ≤ limit_of c.limits limit.Names
  pub short_services : (name : List ℕ) → Contains c.index.services name
      → length name ≤ limit_of c.limits limit.FullNameBytes
  pub extensions_rise : ExtensionsRise c.extensions
  pub few_extensions : length c.extensions ≤ limit_of c.limits limit.Names
  pub extensions_within : (e : DeclaredExtension) → Contains c.extensions e → IsExtensionWithin (length c.files) e

-- and a set that is no longer than the limit
pub record IsSound (c : Compilation) : Type 0 where
  pub coherent : IsCoherent c
  pub within : length (set_of c.files c.links) ≤ limit_of c.limits limit.SetBytes
