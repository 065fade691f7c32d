use Rattle.proto_names.proofs.Common.{take, AreKeysOf, all_of, share_of}
use Rattle.proto_names.proofs.keys.keys_of.Given as goal

abbrev pub invariant-loop-part : goal.invariant-loop-part
invariant-loop-part l =
    AreKeysOf (share_of l.share.count l.share.position (all_of (take l.part l.collected))) l.collected l.keys.items
