use Rattle.reflect_core.proofs.Common.{arith, ℕ, Contains-get_or, bytes_field, bytes_at}
use Rattle.std.proofs.lemmas.List.Folds.{length-flat_map-take}
use Rattle.reflect_core.proofs.reply.Material.files_len.Goals as goal

pub bytes_at-requires : goal.bytes_at-requires
bytes_at-requires c = c.requires.inside _ (Contains-get_or c.args.files.now c.loop-file.file-index 0 (omega arith))

pub overflow_add-len : goal.overflow_add-len
overflow_add-len c =
    let field = λ (a : ℕ). bytes_field 1 (bytes_at c.args.self.now.compiled.now.files a) in
    let part = length-flat_map-take field c.args.files.now c.loop-file.file-index 0 (omega arith) in
    grind (arith, part)
