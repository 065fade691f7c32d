use Rattle.proto_names.proofs.Common.{◌≡◌, sym, ◌∙◌, ◌+◌, ◌-◌, arith, length, at}
use Rattle.std.proofs.lemmas.Bool.{true≢false}
use Rattle.proto_names.proofs.Repeating.{put_all, put_more, put_same}
use Rattle.proto_names.proofs.twice.all_twice.Goals as goal
use Rattle.proto_names.proofs.twice.all_twice.Goals.{then-is_twice+in_ok-push, else-is_twice}

pub loop-position-preserved : goal.loop-position-preserved
loop-position-preserved c =
    let os = c.args.names.now in
    let n = c.loop-position.position in
    let last : n + 1 - 1 ≡ n = omega arith in
    let put = c.loop-position.invariant.put in
    record {
      run = λ some. rw last c.run_at-run.ensures;
      put = (elim c.if-is_twice.branch [
        | then-is_twice+in_ok-push w ↦
            rw (w.spots-is, w.in_ok-push.ensures.items, w.name_twice.ensures (at os n) w.location.ensures)
            (put_more _ n _ put (c.is_twice.ensures.0 w.if-is_twice.true))
        | else-is_twice w ↦ rw w.spots-is
            (put_same _ n _ put (λ repeats. true≢false (sym (c.is_twice.ensures.1 repeats) ∙ w.if-is_twice.false)))
      ]);
    }

pub returns : goal.returns
returns c =
    let end : c.loop-position.position ≡ length c.args.names.now = omega (arith, c.len-position-end.ensures) in
    put_all _ _ c.requires (rw end at c.loop-position.invariant.put)
