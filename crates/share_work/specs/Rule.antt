-- The rule of the table, between any two atomic steps.
use Rattle.std.specs.Prelude.{◌≡◌, ◌≢◌, ℕ, ◌+◌, ◌<◌, ◌^◌, List, [], length, slice_index, ◌⊎◌, Contains, AllPairs}
use Rattle.std.specs.List.{flat_map, sum_by}
use mathlib.Core.Option.{some}
use lib.ListN.{get_elem?}
use Rattle.share_work.specs.declared.views.Call.{Call}
use Rattle.share_work.specs.declared.views.View.{View}
use Rattle.share_work.specs.Posts.{NONE, least_at}
use Rattle.share_work.specs.Views.{posts_of}

abbrev pub all_calls : List View → List Call
all_calls views = flat_map (λ v. v.calls) views

abbrev pub all_told : List View → List (ℕ × ℕ)
all_told views = flat_map (λ v. v.told) views

-- the call was made at the word and lowered it: it fell
abbrev pub FallsAt : ℕ → Call → Type 0
FallsAt w c = (c.word ≡ w) × (c.number < c.found)

-- at the word each number is under NONE, no two calls that fell found the same number, and each call found NONE or the
-- number of one that fell
pub record IsLegalAt (w : ℕ) (calls : List Call) : Type 0 where
  pub under : (c : Call) → Contains calls c → c.word ≡ w → c.number < NONE
  pub once : AllPairs (λ c d. FallsAt w c → FallsAt w d → c.found ≢ d.found) calls
  pub linked : (c : Call) → Contains calls c → c.word ≡ w
      → (c.found ≡ NONE) ⊎ ((d : Call) × Contains calls d × FallsAt w d × (d.number ≡ c.found))

abbrev pub IsLegal : List Call → Type 0
IsLegal calls = (w : ℕ) → IsLegalAt w calls

-- each number is NONE or was posted at its word
abbrev pub IsPosted : List (ℕ × ℕ) → List Call → Type 0
IsPosted told calls = (w x : ℕ) → Contains told (w, x) → (x ≡ NONE) ⊎ Contains (posts_of calls) (w, x)

-- Word 0 is the seat word, and word w of the callers is word w + 1. Each word is the least number posted there in any
-- view; the calls of all views are legal; each told number is NONE or was posted; the parts add up to 2 ^ 32, and a
-- view without parts is spent.
pub record IsKept (count : ℕ) (words : List ℕ) (views : List View) : Type 0 where
  pub size : length words ≡ count + 1
  pub seat_word : slice_index words 0 ≡ 0
  pub least : (w : ℕ) → w < count → slice_index words (w + 1) ≡ least_at w (posts_of (all_calls views))
  pub legal : IsLegal (all_calls views)
  pub told : IsPosted (all_told views) (all_calls views)
  pub parts : sum_by (λ v. v.parts) views ≡ 2 ^ 32
  pub spent : (id : ℕ) (v : View) → get_elem? views id ≡ some v → v.parts ≡ 0 → (v.calls ≡ []) × (v.told ≡ [])
