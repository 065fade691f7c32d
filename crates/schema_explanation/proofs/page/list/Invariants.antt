use Rattle.std.proofs.Common.{◌≡◌, take, flat_map, string_bytes}
use Rattle.schema_explanation.specs.Page.{line_of}
use Rattle.schema_explanation.proofs.page.list.Given as goal

abbrev pub invariant-loop-topic : goal.invariant-loop-topic
invariant-loop-topic l = string_bytes l.lines ≡ flat_map line_of (take l.topic-index l.topic-items)
