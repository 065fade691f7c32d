use Rattle.std.proofs.lemmas.Result.{IfOk-weaker}
use Rattle.file_faults.specs.OwnFaults.{AreOwnFaults}
use Rattle.share_work.proofs.Giving.{all_of_gives}
use Rattle.file_faults.proofs.NamedFaults.{are_told}
use Rattle.file_faults.proofs.Telling.{all_of_files, in_order, least_of_files}
use Rattle.file_faults.proofs.finding.faults_of_files.Goals as goal

pub returns-clause-each : goal.returns-clause-each
returns-clause-each g c =
    let limits = c.args.limits.now in
    let each = all_of_gives (λ s f. AreOwnFaults limits s f.items) 0 _ _ c.in_ok-found.ensures.outs in
    IfOk-weaker c.all_named.result _ _
    (λ faults is. rw is (are_told limits _ _ (rw c.deref.ensures.value each))) c.all_named.ensures

pub returns-clause-first : goal.returns-clause-first
returns-clause-first g c sources few order =
    IfOk-weaker c.all_named.result _ _
    (λ faults all. least_of_files c.args.limits.now sources _ _ few order all) (returns-clause-each g c)

pub returns-clause-set : goal.returns-clause-set
returns-clause-set g c sources few order =
    IfOk-weaker c.all_named.result _ _
    (λ faults all. all_of_files c.args.limits.now sources _ _ few order all) (returns-clause-each g c)

pub returns-clause-order : goal.returns-clause-order
returns-clause-order g c rises =
    IfOk-weaker c.all_named.result _ _
    (λ faults all. in_order c.args.limits.now _ _ rises all) (returns-clause-each g c)
