use Rattle.proto_compile.proofs.Common.{◌≡◌, sym, [], map, Ok, Vec, Global, AllZip, IfOk-weaker, FileDesc, SourceDescribes, IsLeastFault, IsDescribed, IsFirstFound, all_of_gives, gives_well}
use Rattle.proto_compile.proofs.LeastFault.{err_tells, first_local, own_found}
use Rattle.proto_compile.proofs.pass.local.describe_all.Goals as goal

pub judge-requires : goal.judge-requires
judge-requires g c = sym c.in_ok-outcomes.ensures.0

pub returns-clause-described : goal.returns-clause-described
returns-clause-described g c =
    let limits = c.args.limits.now in
    let files = c.args.files.now in
    let outcomes = c.in_ok-outcomes.outcomes.items in
    IfOk-weaker c.judge.result (λ (descs : Vec FileDesc Global). outcomes ≡ map Ok descs.items)
    (λ descs. AllZip (SourceDescribes limits) files descs.items)
    (λ descs is. all_of_gives (SourceDescribes limits) 0 files descs.items
    (gives_well (λ k. IsDescribed limits) files descs.items outcomes is c.in_ok-outcomes.ensures)) c.judge.ensures.well

pub returns-clause-first : goal.returns-clause-first
returns-clause-first g c sources few order =
    let limits = c.args.limits.now in
    let files = c.args.files.now in
    let outcomes = c.in_ok-outcomes.outcomes.items in
    err_tells (IsFirstFound 1 files outcomes) (IsLeastFault limits sources) c.judge.result
    (first_local limits sources files outcomes few order c.in_ok-outcomes.ensures) c.judge.ensures.first

pub returns-clause-own : goal.returns-clause-own
returns-clause-own g c =
    let limits = c.args.limits.now in
    let files = c.args.files.now in
    let outcomes = c.in_ok-outcomes.outcomes.items in
    err_tells (IsFirstFound 1 files outcomes) _ c.judge.result
    (own_found limits [] files outcomes c.in_ok-outcomes.ensures) c.judge.ensures.first
