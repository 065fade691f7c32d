use Rattle.proto_names.proofs.Common.{◌≡◌, ◌≢◌, ◌∙◌, sym, ◌<◌, length, arith, true≢false, scoped, at, blank}
use Rattle.proto_names.proofs.Searching.{one_point}
use Rattle.proto_names.proofs.table.run_length.Goals as goal
use Rattle.proto_names.proofs.table.run_length.Goals.{else-len-gt1-via-then-len-gt1+then-hash+else-has_name, else-len-gt1-via-then-len-gt1+else-hash, else-len-gt1-via-else-len-gt1}

pub returns-else-len-gt1-clause-point : goal.returns-else-len-gt1-clause-point
returns-else-len-gt1-clause-point c =
    let os = c.args.names.now in
    let target = scoped c.args.scope.now c.args.name.now in
    let other : 1 < length os → (at os 1).name ≢ target = elim c.else-len-gt1.branch [
      | else-len-gt1-via-then-len-gt1+else-hash w ↦
          (λ h e. let same : w.hash.result ≡ w.hash-then-len-gt1.result
          = cc (w.hash.ensures, w.hash-then-len-gt1.ensures, c.requires.first blank) in
          absurd (omega (arith, w.if-hash.false)))
      | else-len-gt1-via-then-len-gt1+then-hash+else-has_name w ↦
          (λ h e. true≢false (sym (w.has_name.ensures.1 e) ∙ w.if-has_name.false))
      | else-len-gt1-via-else-len-gt1 w ↦ (λ h. let past = w.if-len-gt1.false in absurd (omega (arith, h, past)))
    ] in
    one_point os target c.requires.order c.requires.behind c.requires.first other
