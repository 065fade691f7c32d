use Rattle.reflect_core.proofs.Common.{◌≡◌, ◌++◌, take}
use Rattle.reflect_core.proofs.Numbering.{written}
use Rattle.reflect_core.proofs.reply.Material.put_numbers.Given as goal

abbrev pub invariant-loop-extension : goal.invariant-loop-extension
invariant-loop-extension l =
    l.out.items ≡ l.fn.out.items ++ written (take l.extension-index l.extension-items) l.message
