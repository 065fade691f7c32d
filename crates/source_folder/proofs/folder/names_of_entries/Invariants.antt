use Rattle.std.proofs.Common.{◌≡◌, All, IsTrue, map, string_bytes}
use Rattle.source_folder.specs.Paths.{ends_in_proto}
use Rattle.source_folder.specs.Ordered.{paths_of}
use Rattle.source_folder.proofs.folder.names_of_entries.Given as goal

abbrev pub invariant-loop-entry : goal.invariant-loop-entry
invariant-loop-entry l = record {
  names : map string_bytes l.names.items ≡ paths_of l.yielded;
  proto : All (λ n. IsTrue (ends_in_proto (string_bytes n))) l.names.items;
}
