use Rattle.proto_names.proofs.Common.{◌≡◌, ◌++◌, map, flat_map, string_bytes, services_in, table_of}
use Rattle.proto_names.proofs.index.taken_apart.Given as goal

abbrev pub invariant-loop-share : goal.invariant-loop-share
invariant-loop-share l = record {
  whole : l.yielded ++ l.share-iterator.rest.items ≡ l.fn.shares.items;
  tables : l.tables.items ≡ map table_of l.yielded;
  services : map string_bytes l.services.items ≡ flat_map services_in l.yielded;
}
