use Rattle.std.proofs.Common.{◌≡◌, ◌++◌, ◌≤◌, ℕ, List, drop, length, map, IsUtf8}
use Rattle.std.specs.List.{AllByRecursion}
use Rattle.wire_format.specs.ProgramFields.{field_of}
use Rattle.proto_sets.specs.HeadSteps.{AreFlags}
use Rattle.proto_sets.specs.Heads.{imports_from, paths_of}
use Rattle.proto_sets.proofs.head.imports_of.Given as goal

abbrev pub invariant-loop-field : goal.invariant-loop-field
invariant-loop-field l = record {
  few : length l.imports.items ≤ l.field-index;
  imports : (publics : List ℕ) → AreFlags publics l.flags
      → l.imports.items ++ imports_from publics (length l.imports.items)
      (paths_of (map field_of (drop l.field-index l.fields)))
      ≡ imports_from publics 0 (paths_of (map field_of l.fields));
  ahead : AllByRecursion IsUtf8 (paths_of (map field_of (drop l.field-index l.fields)))
      → AllByRecursion IsUtf8 (paths_of (map field_of l.fields));
  back : AllByRecursion IsUtf8 (paths_of (map field_of l.fields))
      → AllByRecursion IsUtf8 (paths_of (map field_of (drop l.field-index l.fields)));
}
