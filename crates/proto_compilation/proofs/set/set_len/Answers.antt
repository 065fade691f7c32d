use Rattle.std.proofs.Common.{arith, ℕ}
use Rattle.std.proofs.lemmas.List.Elements.{Contains-get_or}
use Rattle.proto_compilation.specs.Compilation.{bytes_at}
use Rattle.wire_format.specs.Field.{bytes_field}
use Rattle.std.proofs.lemmas.List.Folds.{length-flat_map-take}
use Rattle.proto_compilation.proofs.set.set_len.Goals as goal

pub bytes-requires : goal.bytes-requires
bytes-requires c = c.requires.inside _ (rw (← c.set_order-file-items.ensures)
    (Contains-get_or c.set_order-file-items.result.now c.loop-file.file-index 0 (omega arith)))

pub returns-then-len-most : goal.returns-then-len-most
returns-then-len-most c =
    let field = λ (a : ℕ). bytes_field 1 (bytes_at c.args.files.now a) in
    let part = length-flat_map-take field c.set_order-file-items.result.now c.loop-file.file-index 0 (omega arith) in
    grind (arith, part, c.set_order-file-items.ensures)
