use Rattle.proto_names.proofs.Common.{◌∙◌, arith, sym, false≢true, scoped}
use Rattle.proto_names.proofs.Searching.{nowhere_is}
use Rattle.proto_names.proofs.halving.start_by_halving.Goals as goal
use Rattle.proto_names.proofs.halving.start_by_halving.Goals.{else-start-len-via-then-start-len+else-has_name, else-start-len-via-else-start-len}

pub returns-else-start-len : goal.returns-else-start-len
returns-else-start-len c =
    nowhere_is c.args.names.now (scoped c.args.scope.now c.args.name.now) c.count_before-start.result c.requires.order
    c.count_before-start.ensures.point
    (λ below same. elim c.else-start-len.branch [
      | else-start-len-via-then-start-len+else-has_name w ↦
          false≢true (sym w.if-has_name.false ∙ w.has_name.ensures.1 same)
      | else-start-len-via-else-start-len w ↦ (let past = w.if-start-len.false in absurd (omega (arith, past, below)))
    ])
