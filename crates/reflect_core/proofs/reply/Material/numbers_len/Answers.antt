use Rattle.reflect_core.proofs.Common.{◌≡◌, ◌<◌, take, ap, length, arith, common_steps, length-append}
use Rattle.std.proofs.lemmas.List.{get_or_default}
use Rattle.std.proofs.Common.{bytes_eq, true, get_or, string_bytes, ◌+◌}
use Rattle.wire_format.specs.Varint.{varint_bytes}
use Rattle.reflect_core.proofs.Numbering.{written, written_yes, written_within}
use Rattle.reflect_core.proofs.reply.Material.numbers_len.Goals as goal

pub overflow_add-len : goal.overflow_add-len
overflow_add-len c =
    let items = c.extensions-extension-items.result.now in
    let message = c.args.message.now in
    let i = c.loop-extension.extension-index in
    let item = c.extension-item.result in
    let total : length (written items message) < 4294967296 = rw c.extensions-extension-items.ensures c.requires in
    let same : bytes_eq (string_bytes item.message) message ≡ true = cc in
    let here : get_or items i item ≡ item = grind (arith, common_steps, get_or_default) in
    let more = ap length (written_yes items message i item c.loop-extension-test.true (rw here same)) in
    omega (
      arith,
      more,
      length-append (written (take i items) message) (varint_bytes (get_or items i item).number),
      written_within items message (i + 1),
      total,
      ap (λ e. length (varint_bytes e.number)) here,
    )
