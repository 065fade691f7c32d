use Rattle.proto_names.proofs.Common.{map, take, twice_of}
use Rattle.proto_names.proofs.Once.{IsFirstListed}
use Rattle.proto_names.proofs.index.first_of.Given as goal

abbrev pub invariant-loop-share : goal.invariant-loop-share
invariant-loop-share l = IsFirstListed (map twice_of (take l.share-index l.shares)) l.first
