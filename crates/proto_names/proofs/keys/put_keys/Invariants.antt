use Rattle.proto_names.proofs.Common.{◌++◌, take, AreKeysOf, part_at, all_of, share_of}
use Rattle.proto_names.proofs.keys.put_keys.Given as goal

abbrev pub invariant-loop-index : goal.invariant-loop-index
invariant-loop-index l =
    AreKeysOf (share_of l.share.count l.share.position (all_of (take l.part l.collected))
    ++ share_of l.share.count l.share.position (take l.index (part_at l.collected l.part))) l.collected l.keys.items
