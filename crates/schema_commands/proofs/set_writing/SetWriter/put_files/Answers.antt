use Rattle.proto_compilation.proofs.Within.{ordered_within}
use Rattle.schema_commands.proofs.Setting.{file_below}
use Rattle.std.proofs.Common.{◌∙◌, ap, arith}
use Rattle.schema_commands.proofs.set_writing.SetWriter.put_files.Goals as goal

pub bytes_at-bytes-requires : goal.bytes_at-bytes-requires
bytes_at-bytes-requires g c =
    let same = c.set_order-id-items.ensures ∙ ap (λ l. l.set_order) c.links.ensures in
    let coherent = c.is_sound.ensures.coherent in
    let inside = ordered_within _ coherent in
    omega (arith, coherent.linked, file_below c.set_order-id-items.result.now _ _ _ same inside c.loop-id-test.true)
