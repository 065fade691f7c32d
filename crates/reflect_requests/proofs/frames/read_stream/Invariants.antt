use Rattle.std.proofs.Common.{◌≡◌, ◌++◌, ◌≤◌, map, length, All}
use Rattle.std.specs.List.{flat_map}
use Rattle.proto_base.specs.Limits.{limit_of}
use Rattle.proto_base.specs.declared.limits.Limit.TheVariants.{Requests}
use Rattle.reflect_requests.specs.Frames.{frame, IsAllowed}
use Rattle.reflect_requests.specs.ProgramFrames.{Reads, bytes_of}
use Rattle.reflect_requests.proofs.frames.read_stream.Given as goal

abbrev pub invariant-loop-messages : goal.invariant-loop-messages
invariant-loop-messages l = record {
  row : l.body ≡ flat_map (frame 0) (map bytes_of l.messages.items) ++ l.rest;
  allowed : All (IsAllowed l.limits) (map bytes_of l.messages.items);
  few : length l.messages.items ≤ limit_of l.limits Requests;
  requests : All Reads l.messages.items;
}

abbrev pub decreases-loop-messages : goal.decreases-loop-messages
decreases-loop-messages l = length l.rest
