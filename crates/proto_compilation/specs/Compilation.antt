-- A compilation.
use Rattle.std.specs.Prelude.{◌≡◌, ℕ, ◌<◌, List, [], length, map, flat_map, slice_index_or}
use Rattle.proto_base.specs.declared.limits.Limits.{Limits}
use Rattle.proto_compilation.specs.Extensions.{DeclaredExtension}
use Rattle.proto_links.specs.Linked.{Linked}
use Rattle.proto_names.specs.Index.{Index}
use Rattle.wire_format.specs.Field.{bytes_field}

-- a file: its name, and the bytes of its descriptor
pub record CompiledFile : Type 0 where
  pub name : List ℕ
  pub bytes : List ℕ

-- the files in the order of their names, their links, the index of their names, their extensions, and the limits within
-- which they stand
pub record Compilation : Type 0 where
  pub files : List CompiledFile
  pub links : Linked
  pub index : Index
  pub extensions : List DeclaredExtension
  pub limits : Limits

abbrev pub file_name : CompiledFile → List ℕ
file_name file = file.name

abbrev pub file_bytes : CompiledFile → List ℕ
file_bytes file = file.bytes

-- the bytes of the file at a position
abbrev pub bytes_at : List CompiledFile → ℕ → List ℕ
bytes_at files a = slice_index_or (map file_bytes files) a []

-- the file at a position has this name
abbrev pub IsNamed : List CompiledFile → List ℕ → ℕ → Type 0
IsNamed files name a = (a < length files) × (slice_index_or (map file_name files) a [] ≡ name)

-- the files as field 1 of a `FileDescriptorSet`, in set order
abbrev pub set_of : List CompiledFile → Linked → List ℕ
set_of files links = flat_map (λ a. bytes_field 1 (bytes_at files a)) links.set_order
