use Rattle.bit_matrix.specs.Words.{AreJoined}
use Rattle.bit_matrix.proofs.matrix.join_words.Given as goal

abbrev pub invariant-loop-word : goal.invariant-loop-word
invariant-loop-word l = AreJoined l.fn.words l.start l.others l.word l.words
