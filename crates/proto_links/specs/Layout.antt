-- Words of private contracts: how links are kept. Each file has a position in set order. The list of what it reaches
-- stands there, and the row in which the files that it sees are set.
use Rattle.std.specs.Prelude.{◌≡◌, ℕ, ◌<◌, ◌≤◌, List, [], length, map, slice_index_or, All, Bool}
use Rattle.std.specs.List.{range_with_len}
use Rattle.bit_matrix.specs.Bits.{Bits, has as is_set}
use Rattle.bit_matrix.specs.Changes.{columns_of}
use Rattle.proto_links.specs.Linked.{Linked}
use Rattle.proto_links.specs.declared.links.Links.TheInside.{Inside}

abbrev pub list_at : List (List ℕ) → ℕ → List ℕ
list_at lists position = slice_index_or lists position []

abbrev pub row_at : Bits → ℕ → List Bool
row_at bits position = map (is_set bits position) (range_with_len 0 (columns_of bits))

-- what is kept by positions, file by file
abbrev pub linked : Inside → Linked
linked inside = record {
  set_order = inside.ranking.order.items;
  ranks = inside.ranking.ranks.items;
  reach = map (list_at inside.reach) inside.positions.items;
  seen = map (row_at inside.seen) inside.positions.items;
}

-- each file has its position, a list and a row there, and a column
pub record IsLaidOut (inside : Inside) : Type 0 where
  pub size : length inside.positions.items ≡ length inside.ranking.ranks.items
  pub lists : All (λ position. position < length inside.reach) inside.positions.items
  pub rows : All (λ position. position < inside.seen.rows) inside.positions.items
  pub columns : length inside.ranking.ranks.items ≤ columns_of inside.seen
