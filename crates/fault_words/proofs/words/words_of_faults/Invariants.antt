use Rattle.std.proofs.Common.{◌≡◌, length}
use Rattle.fault_words.proofs.words.words_of_faults.Given as goal

abbrev pub invariant-loop-at : goal.invariant-loop-at
invariant-loop-at l = length l.words.items ≡ l.at
