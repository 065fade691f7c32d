use Rattle.reflect_core.proofs.Common.{◌≡◌, length, take, files_bytes}
use Rattle.reflect_core.proofs.reply.Material.files_len.Given as goal

abbrev pub invariant-loop-file : goal.invariant-loop-file
invariant-loop-file l = l.len ≡ length (files_bytes l.self.compiled.now (take l.file-index l.files))
