use Rattle.reflect_core.proofs.Common.{arith, Contains-get_or}
use Rattle.reflect_core.proofs.reply.Material.put_files.Goals as goal

pub bytes_at-requires : goal.bytes_at-requires
bytes_at-requires c = c.requires.inside _ (Contains-get_or c.args.files.now c.loop-file.file-index 0 (omega arith))
