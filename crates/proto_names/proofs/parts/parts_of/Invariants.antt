use Rattle.proto_names.proofs.Common.{◌≡◌, ◌≤◌, length, take, ArePlaced, files_in}
use Rattle.proto_names.proofs.parts.parts_of.Given as goal

abbrev pub invariant-loop-k : goal.invariant-loop-k
invariant-loop-k l = record {
  whole : files_in l.parts.items ≡ take l.first l.files;
  placed : ArePlaced l.parts.items;
  count : length l.parts.items ≡ l.k;
  within : l.first ≤ length l.files;
  all : l.k ≡ l.count → l.first ≡ length l.files;
}
