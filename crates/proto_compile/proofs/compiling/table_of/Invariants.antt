use Rattle.proto_compile.proofs.Common.{◌≡◌, length, map, take, file_bytes, file_name, items_of}
use Rattle.proto_compile.specs.Sources.{name_of}
use Rattle.proto_compile.proofs.compiling.table_of.Given as goal

abbrev pub invariant-loop-bytes : goal.invariant-loop-bytes
invariant-loop-bytes l = record {
  names : map file_name l.files ≡ take (length l.yielded) (map name_of l.sources);
  bytes : map file_bytes l.files ≡ map items_of l.yielded;
}
