use Rattle.reflect_core.proofs.Common.{AreContentsLengths}
use Rattle.reflect_core.proofs.response.contents_lengths.Given as goal

abbrev pub invariant-loop-position : goal.invariant-loop-position
invariant-loop-position l = AreContentsLengths l.fn.material.compiled.now l.asked l.carried l.lengths.items l.position
