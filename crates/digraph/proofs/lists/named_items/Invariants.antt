use Rattle.std.proofs.Common.{◌≡◌, map, take}
use Rattle.digraph.specs.Ranges.{name_of}
use Rattle.digraph.proofs.lists.named_items.Given as goal

abbrev pub invariant-loop-item : goal.invariant-loop-item
invariant-loop-item l = (l.named.items ≡ map (name_of l.names) (take l.item-index l.items))
