use Rattle.schema_commands.proofs.Telling.{refused, unwritten}
use Rattle.schema_compile.proofs.Telling.{handed_on}
use Rattle.std.proofs.Common.{refl}
use Rattle.schema_commands.proofs.commands.run_describe.Goals as goal

pub returns-in_err-line : goal.returns-in_err-line
returns-in_err-line g c =
    let run = rw c.read_bound-most.ensures.value at c.in_ok-text.ensures.run in
    rw (handed_on c.from_residual-in_err-line.result _ c.from_residual-in_err-line.ensures.1)
    (refused _ _ _ _ c.standard-limits.result _ c.in_err-line.field-0.0
    (record { standard = c.standard-limits.ensures; named = refl; read = rw c.deref.ensures.value run })
    c.in_err-line.ensures.refused)

pub returns-in_err-write_bytes : goal.returns-in_err-write_bytes
returns-in_err-write_bytes g c =
    let run = rw c.read_bound-most.ensures.value at c.in_ok-text.ensures.run in
    rw (handed_on c.from_residual-in_err-write_bytes.result _ c.from_residual-in_err-write_bytes.ensures.1)
    (unwritten _ (g.I.CountedRead.reads c.args.reader.now) (g.I.CountedRead.reads c.read_bytes.new.reader) _
    (g.O.CountedWrite.writes c.write_bytes.new.writer) c.standard-limits.result
    (record { name = c.args.name; text = c.deref.result }) c.as_bytes.result.now c.in_err-write_bytes.field-0.0
    (record { standard = c.standard-limits.ensures; named = refl; read = rw c.deref.ensures.value run })
    (rw c.as_bytes.ensures.value c.in_ok-line.ensures.line) c.in_err-write_bytes.ensures)

pub returns : goal.returns
returns g c =
    let run = rw c.read_bound-most.ensures.value at c.in_ok-text.ensures.run in (
      c.standard-limits.result,
      (record { name = c.args.name; text = c.deref.result }),
      record { standard = c.standard-limits.ensures; named = refl; read = rw c.deref.ensures.value run },
      c.as_bytes.result.now,
      rw c.as_bytes.ensures.value c.in_ok-line.ensures.line,
      c.in_ok-write_bytes.ensures,
    )
