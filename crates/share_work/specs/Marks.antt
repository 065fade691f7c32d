-- Marks over a reach, what they post, and what one seat of their table knows.
use Rattle.std.specs.Prelude.{Option, Some, None, refl, ℕ, List, [], ◌∷◌, ◌++◌, map, drop}
use Rattle.std.specs.List.{flat_map}
use Rattle.std.specs.Coded.{Coded, code_by, coded×}
use Rattle.atomic_table.specs.Seated.{TableId, table_id_coded}
use Rattle.share_work.specs.declared.views.Call.{Call}
use Rattle.share_work.specs.declared.views.View.{View}
use Rattle.share_work.specs.declared.mark_view.Debt.{Debt}
use Rattle.share_work.specs.declared.mark_view.MarkView.{MarkView}
use Rattle.share_work.specs.Views.{make_view, whole, left_of, right_of, both_of}

-- the number at each file
abbrev pub at_each : ℕ → List ℕ → List (ℕ × ℕ)
at_each n files = map (λ g. (g, n)) files

-- the posts of marks: each mark's number at each file that its root reaches
abbrev pub marked_posts : (ℕ → List ℕ) → List (ℕ × ℕ) → List (ℕ × ℕ)
marked_posts list marks = flat_map (λ (m : ℕ × ℕ). at_each m.1 (list m.0)) marks

abbrev pub mark_view : View → List (ℕ × ℕ) → Option Debt → MarkView
mark_view v marks debt = record { least = v; marks = marks; debt = debt }

-- a debt owes its number at each file from its position of the root's list on
abbrev pub owed_by : (ℕ → List ℕ) → Option Debt → List (ℕ × ℕ)
owed_by list None = []
owed_by list (Some d) = at_each d.number (drop d.position (list d.root))

abbrev pub owed_of : (ℕ → List ℕ) → MarkView → List (ℕ × ℕ)
owed_of list v = owed_by list v.debt

-- a view after a mark and its calls
abbrev pub with_mark : MarkView → ℕ × ℕ → List Call → MarkView
with_mark v m calls = mark_view (make_view v.least.parts (v.least.calls ++ calls) v.least.told) (m ∷ v.marks) None

-- a split: the splitter keeps its marks, and the new seat has none
abbrev pub mark_left : ℕ → MarkView → MarkView
mark_left k v = mark_view (left_of k v.least) v.marks None

abbrev pub mark_right : ℕ → MarkView → MarkView
mark_right k v = mark_view (right_of k v.least) [] None

-- a join unites the marks
abbrev pub mark_both : MarkView → MarkView → MarkView
mark_both v w = mark_view (both_of v.least w.least) (v.marks ++ w.marks) None

-- the first seat's view
abbrev pub mark_whole : MarkView
mark_whole = mark_view whole [] None

-- what contracts see of a seat: its table and its view
pub record MarkSeatValue : Type 0 where
  pub table : TableId
  pub view : MarkView

abbrev pub mark_seat_value : TableId → MarkView → MarkSeatValue
mark_seat_value z v = record { table = z; view = v }

-- what they see of a table: which it is, and its reach
pub record MarkTableValue (R : Type 0) : Type 0 where
  pub table : TableId
  pub reach : R

abbrev pub mark_table_code : {R : Type 0} → Coded R → Coded (MarkTableValue R)
mark_table_code {R} c = code_by (TableId × R) (coded× table_id_coded c) (λ (b : MarkTableValue R). (b.table, b.reach))
    (λ p. record { table = p.0; reach = p.1 }) (λ _. refl)
