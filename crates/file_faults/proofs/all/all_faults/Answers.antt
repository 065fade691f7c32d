use Rattle.std.proofs.Common.{◌≡◌, ap, arith, map, subst, sym, rules, ◌∷◌, []}
use Rattle.std.proofs.lemmas.Result.{IfOk-weaker}
use Rattle.proto_compile.specs.FaultSet.{told_by}
use Rattle.file_faults.specs.PassFaults.{AreFaultsFrom}
use Rattle.file_faults.proofs.From.{last_from}
use Rattle.file_faults.proofs.Later.{list_from, local_from}
use Rattle.file_faults.proofs.all.all_faults.Goals as goal
use Rattle.file_faults.proofs.all.all_faults.Goals.{in_default-via-then-first-lt1, in_default-via-else-first-lt1+else-first-lt5}

pub returns-in-Err-First : goal.returns-in-Err-First
returns-in-Err-First g c = λ least.
    let limits = c.args.limits.now in
    let sources = c.args.sources.now in
    let first = told_by c.args.first in
    subst (λ fs. AreFaultsFrom limits sources first (map told_by fs)) (sym c.in_ok-vec-in-Err-First.ensures.items)
    (subst (λ f. AreFaultsFrom limits sources first (told_by f ∷ [])) (sym c.in-Err-First.fault-is) (list_from limits sources
    first least c.in-Err-First.field-0 c.in-Err-First.fault c.in-Err-First.field-0-is c.in-Err-First.ensures.first
    c.in-Err-First.ensures.pass))

pub returns-in-1 : goal.returns-in-1
returns-in-1 g c = λ least.
    let limits = c.args.limits.now in
    let sources = c.args.sources.now in
    IfOk-weaker c.faults_of_files.result _ _ (λ faults each. local_from limits sources (told_by c.args.first) least _
    c.in-1.is c.in-Ok.ensures.few (rw c.deref.ensures.value c.in-Ok.ensures.files) (map told_by faults.items) each)
    c.faults_of_files.ensures.each

pub returns : goal.returns
returns g c = λ least.
    let limits = c.args.limits.now in
    let sources = c.args.sources.now in
    let first = told_by c.args.first in
    subst (λ fs. AreFaultsFrom limits sources first (map told_by fs)) (sym c.in_ok-vec-in_default.ensures.items)
    (elim c.in_default.branch [
      | in_default-via-then-first-lt1 w ↦ last_from limits sources first least (λ e. omega (arith, e))
          (λ e. omega (arith, e)) (λ e. omega (arith, e)) (λ e. omega (arith, e))
      | in_default-via-else-first-lt1+else-first-lt5 w ↦ last_from limits sources first least (λ e. omega (arith, e))
          (λ e. omega (arith, e)) (λ e. omega (arith, e)) (λ e. omega (arith, e))
    ])
