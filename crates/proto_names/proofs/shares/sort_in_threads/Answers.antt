use Rattle.proto_names.proofs.Common.{arith, all_of}
use Rattle.std.proofs.lemmas.Result.{IfOk-weaker}
use Rattle.proto_names.proofs.Tabled.{shares_given}
use Rattle.proto_names.proofs.shares.sort_in_threads.Goals as goal

pub returns : goal.returns
returns g c = IfOk-weaker c.each_in_shares.result _ _ (λ outs given.
    shares_given 4 (all_of c.args.collected) c.in_ok-shares.shares.items outs.items (omega arith) c.in_ok-shares.ensures
    (rw (c.deref.ensures.value, c.in_ok-shared.ensures.ok) at given))
    c.each_in_shares.ensures.outs
