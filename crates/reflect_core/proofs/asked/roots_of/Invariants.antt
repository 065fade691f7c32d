use Rattle.reflect_core.proofs.Common.{◌≡◌, map, take, root, asked_of}
use Rattle.reflect_core.proofs.asked.roots_of.Given as goal

abbrev pub invariant-loop-request : goal.invariant-loop-request
invariant-loop-request l = l.roots.items ≡ map root (map asked_of (take l.request-index l.asked))
