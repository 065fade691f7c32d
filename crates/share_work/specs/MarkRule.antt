-- The rule of a table of marks, between any two atomic steps.
use Rattle.std.specs.Prelude.{None, ◌≡◌, ℕ, ◌+◌, ◌<◌, ◌≤◌, List, [], map, slice_index, ◌⊎◌, Contains}
use Rattle.std.specs.List.{flat_map}
use mathlib.Core.Option.{some}
use lib.ListN.{get_elem?}
use Rattle.share_work.specs.declared.views.View.{View}
use Rattle.share_work.specs.declared.mark_view.MarkView.{MarkView}
use Rattle.share_work.specs.Posts.{NONE}
use Rattle.share_work.specs.Views.{posts_of}
use Rattle.share_work.specs.Rule.{all_calls, IsKept}
use Rattle.share_work.specs.Marks.{marked_posts, owed_of}

abbrev pub all_views : List MarkView → List View
all_views views = map (λ v. v.least) views

abbrev pub all_marks : List MarkView → List (ℕ × ℕ)
all_marks views = flat_map (λ v. v.marks) views

abbrev pub all_owed : (ℕ → List ℕ) → List MarkView → List (ℕ × ℕ)
all_owed list views = flat_map (owed_of list) views

-- Besides the rule of the least numbers: what is posted or owed is a mark's post; a mark's number is under NONE, and
-- its root holds at most that; where a root holds a number, each file that it reaches holds at most that, or is owed at
-- most that; and a spent view has no marks and owes nothing.
pub record IsMarked (count : ℕ) (list : ℕ → List ℕ) (words : List ℕ) (views : List MarkView) : Type 0 where
  pub kept : IsKept count words (all_views views)
  pub posted : (w x : ℕ) → Contains (posts_of (all_calls (all_views views))) (w, x)
      → Contains (marked_posts list (all_marks views)) (w, x)
  pub owed : (w x : ℕ) → Contains (all_owed list views) (w, x) → Contains (marked_posts list (all_marks views)) (w, x)
  pub marks : (r x : ℕ) → Contains (all_marks views) (r, x) → (r < count) × (x < NONE) × (slice_index words (r + 1) ≤ x)
  pub spread : (r g : ℕ) → r < count → Contains (list r) g → slice_index words (r + 1) < NONE
      → (slice_index words (g + 1) ≤ slice_index words (r + 1))
      ⊎ ((x : ℕ) × Contains (all_owed list views) (g, x) × (x ≤ slice_index words (r + 1)))
  pub empty : (id : ℕ) (v : MarkView) → get_elem? views id ≡ some v → v.least.parts ≡ 0
      → (v.marks ≡ []) × (v.debt ≡ None)
