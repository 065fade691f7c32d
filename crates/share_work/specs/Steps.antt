-- Words of private functions: what a view becomes by a join, and by the steps of a mark.
use Rattle.std.specs.Prelude.{Bool, Option, Some, None, length, ℕ, ◌+◌, ◌==◌, nat_lt, List, [], ◌∷◌, ◌++◌, if◌then◌else◌}
use Rattle.share_work.specs.declared.views.Call.{Call}
use Rattle.share_work.specs.declared.views.View.{View}
use Rattle.share_work.specs.declared.mark_view.Debt.{Debt}
use Rattle.share_work.specs.declared.mark_view.MarkView.{MarkView}
use Rattle.share_work.specs.Views.{call, make_view, with_call}
use Rattle.share_work.specs.Marks.{mark_view}

-- the view of a seat that was joined
abbrev pub spent : View
spent = make_view 0 [] []

abbrev pub mark_spent : MarkView
mark_spent = mark_view spent [] None

abbrev pub make_debt : ℕ → ℕ → ℕ → Debt
make_debt root number position = record { root = root; number = number; position = position }

-- the debt at a position of the list, and none at its end
abbrev pub debt_at : ℕ → ℕ → ℕ → List ℕ → Option Debt
debt_at root number position files = if position == length files then None else Some (make_debt root number position)

-- The root's post ends the mark where it found no more than the number. Else the number is owed at each file.
abbrev pub with_root : ℕ → ℕ → ℕ → MarkView → MarkView
with_root r found n v = mark_view (with_call v.least (call r found n)) ((r, n) ∷ v.marks) (if nat_lt n found then
    Some (make_debt r n 0) else None)

-- the next position of the debt, which ends at the last one
abbrev pub next_debt : Bool → Option Debt → Option Debt
next_debt last None = None
next_debt last (Some d) = if last then None else Some (make_debt d.root d.number (d.position + 1))

-- a post at the debt's position
abbrev pub with_paid : Bool → ℕ → ℕ → ℕ → MarkView → MarkView
with_paid last g found n v = mark_view (with_call v.least (call g found n)) v.marks (next_debt last v.debt)

-- a view after some calls of a mark
abbrev pub with_calls : MarkView → List Call → Option Debt → MarkView
with_calls v calls debt = mark_view (make_view v.least.parts (v.least.calls ++ calls) v.least.told) v.marks debt
