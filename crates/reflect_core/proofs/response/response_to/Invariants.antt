use Rattle.reflect_core.proofs.Common.{◌≡◌, map, take, flat_map, replies_to, asked_of, files_of, frame}
use Rattle.reflect_core.proofs.response.response_to.Given as goal

abbrev pub invariant-loop-position : goal.invariant-loop-position
invariant-loop-position l =
    l.out.items ≡ flat_map (frame 0) (replies_to l.fn.material.compiled.now (map asked_of (take l.position l.asked))
    (map files_of (take l.position l.carried)))
