use Rattle.std.proofs.Common.{arith}
use Rattle.std.proofs.lemmas.List.Elements.{Contains-get_or}
use Rattle.proto_compilation.proofs.set.set_bytes.Goals as goal

pub bytes-requires : goal.bytes-requires
bytes-requires c = c.requires _ (rw (← c.set_order-file-items.ensures)
    (Contains-get_or c.set_order-file-items.result.now c.loop-file.file-index 0 (omega arith)))
