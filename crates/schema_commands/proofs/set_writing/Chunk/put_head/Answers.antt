use Rattle.std.proofs.Common.{◌∙◌, ◌+◌, ap, append_assoc, arith, length, length-append, vec_capacity, vec_len}
use Rattle.wire_format.proofs.Varints.{varint_short}
use Rattle.wire_format.specs.Varint.{varint_bytes}
use Rattle.schema_commands.proofs.Setting.{one_byte, with_room}
use Rattle.schema_commands.proofs.set_writing.Chunk.put_head.Goals as goal

pub returns : goal.returns
returns c =
    let old = c.args.self.now.bytes in
    let next = c.put_varint.new.out in
    let room = c.args.self.now.room in
    let first = with_room c.put_varint.result _ (vec_capacity old) (vec_len old + length (varint_bytes 10))
    c.put_varint.ensures.appended c.put_varint.ensures.full (omega (arith, room, c.requires, old.ok.0, one_byte)) in
    let long = ap length first ∙ length-append old.items (varint_bytes 10) in
    let size = varint_short c.args.len in
    let second = with_room c.put_varint-2.result _ (vec_capacity next) (vec_len next + length (varint_bytes c.args.len))
    c.put_varint-2.ensures.appended c.put_varint-2.ensures.full
    (omega (arith, room, c.requires, size, c.put_varint.ensures.capacity, one_byte, next.ok.0, long)) in
    cc (first, second, append_assoc old.items (varint_bytes 10) (varint_bytes c.args.len))
