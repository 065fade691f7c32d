use Rattle.proto_names.proofs.Common.{◌≡◌, ◌≤◌, ◌++◌, length, map, take, Some, files_in, occurrences_from, all_of}
use Rattle.proto_names.proofs.parts.within.Given as goal

abbrev pub invariant-loop-out : goal.invariant-loop-out
invariant-loop-out l = record {
  outs : map Some l.all.items ++ l.out-iterator.rest.items ≡ l.fn.outs.items;
  all : all_of l.all.items ≡ occurrences_from 0 (files_in (take (length l.all.items) l.parts));
  count : l.count ≡ length (all_of l.all.items);
  within : l.count ≤ l.limit;
}
