use Rattle.proto_names.proofs.Common.{◌≡◌, ◌≤◌, length, take, occurrences_from}
use Rattle.proto_names.proofs.collect.collect_files.Given as goal

abbrev pub invariant-loop-k : goal.invariant-loop-k
invariant-loop-k l = record {
  all : l.entries ≡ occurrences_from l.first (take l.k l.files);
  within : length l.entries ≤ l.limit;
}
