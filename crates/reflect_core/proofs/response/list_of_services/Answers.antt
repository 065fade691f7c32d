use Rattle.reflect_core.proofs.Common.{arith, common_steps}
use Rattle.reflect_core.proofs.response.list_of_services.Goals as goal

pub returns : goal.returns
returns c = grind (arith, common_steps)
