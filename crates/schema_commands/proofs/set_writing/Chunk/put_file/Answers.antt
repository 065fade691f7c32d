use Rattle.schema_compile.proofs.Telling.{handed_on}
use Rattle.std.proofs.Common.{◌++◌, [], ap, arith, length, length-append, Err, Ok}
use Rattle.wire_format.proofs.Varints.{varint_short}
use Rattle.wire_format.specs.Varint.{varint_bytes}
use Rattle.schema_commands.proofs.Setting.{all_out, gathered_after, gathered_cut, one_byte, straight_out}
use Rattle.schema_commands.proofs.set_writing.Chunk.put_file.Goals as goal

pub put_bytes-requires : goal.put_bytes-requires
put_bytes-requires g c =
    let bytes = c.args.bytes.now in
    omega (
      arith,
      varint_short (length bytes),
      one_byte,
      ap length c.put_head.ensures,
      length-append c.make_room.new.self.bytes.items (varint_bytes 10 ++ varint_bytes (length bytes)),
      length-append (varint_bytes 10) (varint_bytes (length bytes)),
      c.in_ok-make_room.ensures.room (omega (arith, c.if-bytes.false)),
    )

pub returns-in_err-write_out : goal.returns-in_err-write_out
returns-in_err-write_out g c =
    let now = g.O.CountedWrite.writes c.make_room.new.writer in
    let new = g.O.CountedWrite.writes c.write_out.new.writer in
    let bytes = c.args.bytes.now in
    let head = varint_bytes 10 ++ varint_bytes (length bytes) in
    let w3 = c.write_out.new.self.bytes.items in
    rw (handed_on c.from_residual-in_err-write_out.result _ c.from_residual-in_err-write_out.ensures.1)
    (gathered_cut _ new c.args.self.now.bytes.items w3 w3 head bytes _
    (gathered_after {A = Unit {0}} {B = Unit {0}} _ now new _ c.make_room.new.self.bytes.items w3 [] head tt
    (Err c.in_err-write_out.field-0.0) c.in_ok-make_room.ensures.gathered
    (all_out {B = Unit {0}} now new _ w3 head c.put_head.new.self.bytes.items (Err c.in_err-write_out.field-0.0)
    c.put_head.ensures c.in_err-write_out.ensures.written tt)))

pub returns-then-bytes : goal.returns-then-bytes
returns-then-bytes g c =
    let now = g.O.CountedWrite.writes c.make_room.new.writer in
    let next = g.O.CountedWrite.writes c.write_out.new.writer in
    let new = g.O.CountedWrite.writes c.write_part.new.writer in
    let bytes = c.args.bytes.now in
    let head = varint_bytes 10 ++ varint_bytes (length bytes) in
    let w3 = c.write_out.new.self.bytes.items in
    gathered_after {A = Unit {0}} _ next new c.args.self.now.bytes.items w3 w3 head bytes tt c.write_part.result
    (gathered_after {A = Unit {0}} {B = Unit {0}} _ now next _ c.make_room.new.self.bytes.items _ [] head tt (Ok tt)
    c.in_ok-make_room.ensures.gathered
    (all_out {B = Unit {0}} now next _ w3 head c.put_head.new.self.bytes.items (Ok tt) c.put_head.ensures
    c.in_ok-write_out.ensures.written c.in_ok-write_out.ensures.anew))
    (straight_out next new w3 bytes c.write_part.result c.in_ok-write_out.ensures.anew c.write_part.ensures)
