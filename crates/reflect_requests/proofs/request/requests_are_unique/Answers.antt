use Rattle.reflect_requests.proofs.RequestRows.{one_host, one_ask}
use Rattle.reflect_requests.proofs.request.requests_are_unique.Goals as goal

pub returns-clause-host : goal.returns-clause-host
returns-clause-host c = one_host

pub returns-clause-ask : goal.returns-clause-ask
returns-clause-ask c = one_ask
