use Rattle.proto_names.proofs.Common.{◌≡◌, ◌⊎◌, ℕ, ◌<◌, ◌↔◌, has, Has, IsAsLarge, columns_of, at}
use Rattle.proto_names.proofs.packages.insert_files.Given as goal

-- the files of those before the position are set
abbrev pub invariant-loop-position : goal.invariant-loop-position
invariant-loop-position l = record {
  large : IsAsLarge l.fn.files l.files;
  kept : (r c : ℕ) → r < l.fn.files.rows → c < columns_of l.fn.files → (r ≡ l.row → ⊥)
      → has l.files r c ≡ has l.fn.files r c;
  files : (c : ℕ) → c < columns_of l.fn.files
      → Has l.files l.row c ↔ (Has l.fn.files l.row c ⊎ ((k : ℕ) × (k < l.position) × ((at l.names k).file ≡ c)));
}
