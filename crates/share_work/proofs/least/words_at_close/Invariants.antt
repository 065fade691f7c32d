use Rattle.std.proofs.Common.{◌≡◌, ℕ, ◌+◌, ◌<◌, slice_index, length}
use Rattle.std.specs.Slots.{slots_items}
use Rattle.share_work.proofs.least.words_at_close.Given as goal

-- the first i words are copied
abbrev pub invariant-loop-i : goal.invariant-loop-i
invariant-loop-i g l = (length l.spare.items ≡ l.i-end)
    × ((k : ℕ) → k < l.i → slice_index l.spare.items k ≡ slice_index (slots_items l.closed.words) (k + 1))
