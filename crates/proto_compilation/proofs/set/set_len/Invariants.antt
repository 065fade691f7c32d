use Rattle.std.proofs.Common.{◌≡◌, ◌≤◌, length, take, flat_map}
use Rattle.proto_compilation.specs.Compilation.{bytes_at}
use Rattle.wire_format.specs.Field.{bytes_field}
use Rattle.proto_compilation.proofs.set.set_len.Given as goal

abbrev pub invariant-loop-file : goal.invariant-loop-file
invariant-loop-file l = record {
  so_far : l.len ≡ length (flat_map (λ a. bytes_field 1 (bytes_at l.files a)) (take l.file-index l.file-items));
  within : l.len ≤ l.most;
}
