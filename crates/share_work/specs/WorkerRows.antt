-- The rows of pieces that workers hand in.
use Rattle.std.specs.Prelude.{◌≡◌, ℕ, ◌+◌, ◌*◌, ◌<◌, List, length, take, drop, slice_get, Some}
use Rattle.share_work.specs.Shares.{GivesItems}

module _ {T O : Type 0} (gives : ℕ → T → O → Type 0) where
  -- outs are those of the items before piece p
  abbrev pub GivesUpTo : ℕ → List T → ℕ → List O → Type 0
  GivesUpTo cut items p outs = GivesItems gives 0 (take (p * cut) items) outs

  -- outs are those of piece p
  abbrev pub GivesPiece : ℕ → List T → ℕ → List O → Type 0
  GivesPiece cut items p outs = GivesItems gives (p * cut) (take cut (drop (p * cut) items)) outs

  -- row has the outs of the pieces w, w + workers and so on, as far as there are items
  module _ {V : Type 0} (outs_of : V → List O) where
    pub record GivesRow (workers cut : ℕ) (items : List T) (w : ℕ) (row : List V) : Type 0 where
      pub pieces : (k : ℕ) (v : V) → slice_get row k ≡ Some v → GivesPiece cut items (w + k * workers) (outs_of v)
      pub whole : (k : ℕ) → (w + k * workers) * cut < length items → k < length row

    -- rows are those of `count` workers from `from` on
    module _ {R : Type 0} (parts_of : R → List V) where
      pub record GivesRows (workers cut : ℕ) (items : List T) (from count : ℕ) (rows : List R) : Type 0 where
        pub len : length rows ≡ count
        pub each : (j : ℕ) (r : R) → slice_get rows j ≡ Some r → GivesRow workers cut items (from + j) (parts_of r)
