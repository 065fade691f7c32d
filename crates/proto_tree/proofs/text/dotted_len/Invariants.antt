use Rattle.std.proofs.Common.{◌≡◌, ◌-◌, ◌^◌, ◌++◌, length, min, take}
use Rattle.std.specs.Prelude.{flat_map}
use Rattle.proto_tree.specs.Text.{part_text}
use Rattle.proto_tree.proofs.text.dotted_len.Given as goal

abbrev pub invariant-loop-part : goal.invariant-loop-part
invariant-loop-part l =
    l.len ≡ min (length (l.fn.name.first.text ++ flat_map part_text (take l.part-index l.part-items))) (2 ^ 64 - 1)
