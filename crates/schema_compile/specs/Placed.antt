-- Where a fault of some sources stands, as users see it.
use Rattle.std.specs.Prelude.{ℕ, List, Option, None, Some, bytes_eq, string_bytes}
use Rattle.std.specs.List.{find}
use Rattle.proto_base.specs.Lines.{column_at, line_at}
use Rattle.proto_base.specs.declared.fault.Fault.{Fault}
use Rattle.proto_compile.specs.Sources.{name_of, text_of}
use Rattle.proto_compile.specs.declared.source.Source.{Source}
use Rattle.schema_failure.specs.declared.failure.Failure.{Failure}
use Rattle.schema_failure.specs.declared.failure.Failure.TheVariants as failure

-- the first source of a name
abbrev pub source_named : List Source → List ℕ → Option Source
source_named sources name = find (λ s. bytes_eq (name_of s) name) sources

-- the line of a place in a source, and its column; both 1 where no source has the name
abbrev pub line_in : Option Source → ℕ → ℕ
line_in None place = 1
line_in (Some s) place = line_at (text_of s) place

abbrev pub column_in : Option Source → ℕ → ℕ
column_in None place = 1
column_in (Some s) place = column_at (text_of s) place

-- a fault of some sources, with the line and the column of its place
abbrev pub located : List Source → Fault → Failure
located sources fault =
    failure.Source fault.file (line_in (source_named sources (string_bytes fault.file)) fault.place.offset)
    (column_in (source_named sources (string_bytes fault.file)) fault.place.offset) fault.kind
