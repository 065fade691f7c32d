use Rattle.std.proofs.Common.{◌≡◌, ◌++◌, take}
use Rattle.std.specs.Prelude.{flat_map, string_bytes}
use Rattle.proto_tree.specs.Text.{literal_text}
use Rattle.proto_tree.proofs.text.joined.Given as goal

abbrev pub invariant-loop-literal : goal.invariant-loop-literal
invariant-loop-literal l = string_bytes l.text ≡ l.value.first.value
    ++ flat_map literal_text (take l.literal-index l.literal-items)
