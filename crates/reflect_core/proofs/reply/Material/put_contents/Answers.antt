use Rattle.reflect_core.proofs.Common.{arith, common_steps}
use Rattle.reflect_core.proofs.Constants.{not_found_is, empty_request_is}
use Rattle.reflect_core.proofs.reply.Material.put_contents.Goals as goal

pub returns-in-NotFound : goal.returns-in-NotFound
returns-in-NotFound c = grind (arith, common_steps, not_found_is)

pub returns-in-EmptyRequest : goal.returns-in-EmptyRequest
returns-in-EmptyRequest c = grind (arith, common_steps, empty_request_is)
