-- What one seat knows: its parts, its calls in order, and the pairs of a word and a number that it was told.
use Rattle.std.specs.Prelude.{ℕ, ◌+◌, ◌-◌, ◌^◌, List, [], ◌∷◌, ◌++◌, map}
use Rattle.atomic_table.specs.Seated.{TableId}
use Rattle.share_work.specs.declared.views.Call.{Call}
use Rattle.share_work.specs.declared.views.View.{View}
use Rattle.share_work.specs.Posts.{least_at}

-- a call at a word: what it found there, and the number that it posted
abbrev pub call : ℕ → ℕ → ℕ → Call
call w found number = record { word = w; found = found; number = number }

abbrev pub make_view : ℕ → List Call → List (ℕ × ℕ) → View
make_view parts calls told = record { parts = parts; calls = calls; told = told }

-- the first seat's view
abbrev pub whole : View
whole = make_view (2 ^ 32) [] []

-- the pairs that the calls posted, and those that they found
abbrev pub posts_of : List Call → List (ℕ × ℕ)
posts_of calls = map (λ c. (c.word, c.number)) calls

abbrev pub finds_of : List Call → List (ℕ × ℕ)
finds_of calls = map (λ c. (c.word, c.found)) calls

-- what the seat found, posted or was told
abbrev pub pairs_of : View → List (ℕ × ℕ)
pairs_of v = finds_of v.calls ++ posts_of v.calls ++ v.told

-- the least number found, posted or told at the word, or NONE
abbrev pub known : ℕ → View → ℕ
known w v = least_at w (pairs_of v)

-- a view after one more call, and after one more told pair
abbrev pub with_call : View → Call → View
with_call v c = make_view v.parts (v.calls ++ c ∷ []) v.told

abbrev pub with_told : View → ℕ → ℕ → View
with_told v w x = make_view v.parts v.calls ((w, x) ∷ v.told)

-- a split of k parts: the splitter keeps its calls and what it was told, and the new seat is told all that it knows
abbrev pub left_of : ℕ → View → View
left_of k v = make_view (v.parts - k) v.calls v.told

abbrev pub right_of : ℕ → View → View
right_of k v = make_view k [] (pairs_of v)

-- a join unites parts, calls and told pairs
abbrev pub both_of : View → View → View
both_of v w = make_view (v.parts + w.parts) (v.calls ++ w.calls) (v.told ++ w.told)

-- what contracts see of a seat: its table and its view
pub record SeatValue : Type 0 where
  pub table : TableId
  pub view : View

-- what they see of a table: which it is, and its number of words
pub record TableValue : Type 0 where
  pub table : TableId
  pub count : ℕ

abbrev pub seat_value : TableId → View → SeatValue
seat_value z v = record { table = z; view = v }
