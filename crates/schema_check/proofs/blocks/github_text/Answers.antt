use Rattle.std.proofs.Common.{append_assoc}
use Rattle.schema_check.proofs.blocks.github_text.Goals as goal

pub returns : goal.returns
returns c = simp (append_assoc, c.slash_behind-slash.ensures) at c.format.ensures.ok
