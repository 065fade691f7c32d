-- Laws of entries that are taken in.
use Rattle.std.proofs.Common.{◌≡◌, ◌∙◌, sym, ap, ℕ, ◌+◌, ◌≤◌, Bool, true, false, List, [], ◌∷◌, ◌++◌, length, map, cond, arith}
use Rattle.std.proofs.lemmas.List.{length-map, length-append}
use Rattle.source_folder.specs.Paths.{ends_in_proto}
use Rattle.source_folder.specs.Ordered.{path_of}
use Rattle.source_folder.specs.Walking.{TakesIn, added_folders, added_sources, folder_parts, most_sources, steps_left}
use Rattle.source_folder.specs.declared.kind.EntryKind.{EntryKind}
use Rattle.source_folder.specs.declared.kind.EntryKind.TheVariants as kind
use Rattle.source_folder.specs.declared.walk.Walk.{Walk}

one_folder : (path : List ℕ) (depth : ℕ) (k : EntryKind) → length (added_folders path depth k) ≤ 1
one_folder path depth (kind.Folder identity) = omega arith
one_folder path depth kind.File = omega arith
one_folder path depth kind.Device = omega arith
one_folder path depth kind.Nowhere = omega arith
one_folder path depth (kind.Unknown reason) = omega arith

at_most_one : {X : Type 0} (b : Bool) (x : X) → length (cond b (x ∷ []) []) ≤ 1
at_most_one true x = omega arith
at_most_one false x = omega arith

one_source : (path : List ℕ) (k : EntryKind) → length (added_sources path k) ≤ 1
one_source path (kind.Folder identity) = omega arith
one_source path kind.File = at_most_one (ends_in_proto path) path
one_source path kind.Device = at_most_one (ends_in_proto path) path
one_source path kind.Nowhere = at_most_one (ends_in_proto path) path
one_source path (kind.Unknown reason) = at_most_one (ends_in_proto path) path

grown : {X Y : Type 0} (f : X → Y) (old new : List X) (more : List Y) → map f new ≡ map f old ++ more
    → length new ≡ length old + length more
grown f old new more is =
    sym (length-map new f) ∙ ap length is ∙ length-append (map f old) more
    ∙ ap (λ n. n + length more) (length-map old f)

-- an entry that is a folder is one entry less
pub taken_falls : (path : List ℕ) (depth : ℕ) (k : EntryKind) (old new : Walk) → TakesIn path depth k old new
    → steps_left new ≤ steps_left old
taken_falls path depth k old new taken =
    let size = grown folder_parts old.folders.items new.folders.items (added_folders path depth k) taken.folders in
    omega (arith, size, one_folder path depth k, taken.counted, old.folders.ok, new.folders.ok)

-- an entry that is a source is one entry less
pub taken_counts : (path : List ℕ) (depth : ℕ) (k : EntryKind) (old new : Walk) → TakesIn path depth k old new
    → most_sources new ≤ most_sources old
taken_counts path depth k old new taken =
    let size = grown path_of old.sources.items new.sources.items (added_sources path k) taken.sources in
    omega (arith, size, one_source path k, taken.counted, old.sources.ok, new.sources.ok)
