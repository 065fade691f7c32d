use Rattle.reflect_core.proofs.Common.{◌≡◌, ℕ, ◌<◌, get_or, services}
use Rattle.reflect_core.specs.ProgramAnswers.{answer_of}
use Rattle.reflect_core.specs.declared.asked.Asked as rust
use Rattle.reflect_core.proofs.response.services_for.Given as goal

abbrev pub invariant-loop-request : goal.invariant-loop-request
invariant-loop-request l = (k : ℕ) (a : rust.Asked) → k < l.request-index
    → answer_of (get_or l.asked k a).answer ≡ services → ⊥
