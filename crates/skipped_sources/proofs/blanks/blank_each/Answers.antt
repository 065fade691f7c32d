use Rattle.std.proofs.Common.{arith, sym}
use Rattle.std.proofs.lemmas.Grind.{common_steps}
use Rattle.std.proofs.lemmas.List.{map_more}
use Rattle.skipped_sources.proofs.Blanking.{more_gone, none_gone}
use Rattle.skipped_sources.proofs.blanks.blank_each.Goals as goal

pub loop-span-init : goal.loop-span-init
loop-span-init c = sym (none_gone 0 c.args.text.now)

pub loop-span-preserved : goal.loop-span-preserved
loop-span-preserved c = grind (arith, common_steps, more_gone, map_more)
