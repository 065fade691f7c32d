use Rattle.proto_names.proofs.Common.{append-nil, arith, ◌≡◌, all_of}
use Rattle.proto_names.proofs.Repeating.{share_alone}
use Rattle.proto_names.proofs.repeated.in_order.Goals as goal

pub returns-clause-all : goal.returns-clause-all
returns-clause-all c =
    let all : all_of c.in_ok-shared.shared.value ≡ c.args.entries = grind (arith, append-nil) in
    let keyed : c.in_ok-of_share.field-0 ≡ c.args.entries = grind (arith, share_alone) in
    rw keyed at c.sorted.ensures.all
