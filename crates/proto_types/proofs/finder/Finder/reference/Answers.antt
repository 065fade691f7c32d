use Rattle.proto_types.proofs.Common.{on_ok_weaker}
use Rattle.proto_types.proofs.Walking.{finds_one}
use Rattle.proto_types.proofs.finder.Finder.reference.Goals as goal

pub returns-in_ok-meaning-in-Spelled-clause-found : goal.returns-in_ok-meaning-in-Spelled-clause-found
returns-in_ok-meaning-in-Spelled-clause-found c =
    let meaning = rw c.as_str.ensures at (c.in_ok-meaning-in-Spelled.ensures.meaning c.args.options.now) in
    rw c.in-Spelled.is (on_ok_weaker c.add.result
    (λ adds. finds_one _ _ _ c.in_ok-meaning-in-Spelled.meaning c.args.found.now c.add.new.self meaning adds)
    c.add.ensures)
