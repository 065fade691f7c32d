use Rattle.reflect_core.proofs.Common.{◌≡◌, length, take}
use Rattle.reflect_core.proofs.Numbering.{written}
use Rattle.reflect_core.proofs.reply.Material.numbers_len.Given as goal

abbrev pub invariant-loop-extension : goal.invariant-loop-extension
invariant-loop-extension l = l.len ≡ length (written (take l.extension-index l.extension-items) l.message)
