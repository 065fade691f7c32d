use Rattle.std.proofs.Common.{◌≡◌, ◌+◌, ◌≤◌, All, map, string_bytes, vec_len}
use Rattle.proto_base.specs.Limits.{limit_of}
use Rattle.proto_base.specs.declared.limits.Limit.TheVariants as limit
use Rattle.source_folder.specs.Folder.{names_of}
use Rattle.source_folder.proofs.folder.read_sources.Given as goal

abbrev pub invariant-loop-name : goal.invariant-loop-name
invariant-loop-name g l = record {
  names : names_of l.texts.items ≡ map string_bytes l.yielded;
  bounded : All (λ t. vec_len t.text ≤ limit_of l.limits limit.FileBytes + 1) l.texts.items;
}
