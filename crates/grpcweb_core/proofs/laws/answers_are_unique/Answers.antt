use Rattle.grpcweb_core.proofs.OneAnswer.{one_answer}
use Rattle.grpcweb_core.proofs.laws.answers_are_unique.Goals as goal

pub returns : goal.returns
returns _ c d mode request a b sound same = one_answer c d mode request sound same a b
