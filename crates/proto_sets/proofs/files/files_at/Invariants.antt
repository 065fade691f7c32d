use Rattle.std.proofs.Common.{◌≡◌, All, map, take}
use Rattle.proto_compilation.specs.Compilation.{file_bytes}
use Rattle.proto_sets.specs.SetSteps.{files_of}
use Rattle.proto_sets.specs.Sets.{IsNamedFile}
use Rattle.proto_sets.proofs.files.files_at.Given as goal

abbrev pub invariant-loop-at : goal.invariant-loop-at
invariant-loop-at l = record {
  bytes : map file_bytes (files_of l.files.items) ≡ take l.at (map (λ t. t.now) l.texts);
  named : All IsNamedFile (files_of l.files.items);
}
