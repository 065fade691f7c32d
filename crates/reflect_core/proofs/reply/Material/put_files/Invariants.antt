use Rattle.reflect_core.proofs.Common.{◌≡◌, ◌++◌, take, files_bytes}
use Rattle.reflect_core.proofs.reply.Material.put_files.Given as goal

abbrev pub invariant-loop-file : goal.invariant-loop-file
invariant-loop-file l = l.out.items ≡ l.fn.out.items ++ files_bytes l.self.compiled.now (take l.file-index l.files)
