use Rattle.std.proofs.Common.{◌≡◌, map, take}
use Rattle.reflect_requests.specs.ProgramFrames.{bytes_of}
use Rattle.reflect_requests.proofs.frames.read_frames.Given as goal

abbrev pub invariant-loop-message : goal.invariant-loop-message
invariant-loop-message l = map (λ message. message.now) l.messages.items ≡ map bytes_of
    (take l.message-index l.message-items)
