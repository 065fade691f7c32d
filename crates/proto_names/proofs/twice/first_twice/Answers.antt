use Rattle.proto_names.proofs.Common.{◌≡◌, ◌∙◌, sym, ◌+◌, ◌-◌, arith, inl, inr, at, location_of}
use Rattle.std.proofs.lemmas.Bool.{true≢false}
use Rattle.proto_names.proofs.Once.{first_kept, first_more, known_split, passed_all, repeats_twice}
use Rattle.proto_names.proofs.twice.first_twice.Goals as goal
use Rattle.proto_names.proofs.twice.first_twice.Goals.{then-is_twice, else-is_twice}

pub loop-position-preserved : goal.loop-position-preserved
loop-position-preserved c =
    let os = c.args.names.now in
    let n = c.loop-position.position in
    let last : n + 1 - 1 ≡ n = omega arith in
    let passed = c.loop-position.invariant.passed in
    record {
      run = λ some. rw last c.run_at-run.ensures;
      passed = (elim c.if-is_twice.branch [
        | then-is_twice w ↦
            let twice = repeats_twice os n c.requires (omega arith) (c.is_twice.ensures.0 w.if-is_twice.true) in
            rw w.first-is (first_more passed _ _ (λ l old. old) w.location.result w.lesser.result w.lesser.ensures
            (at os n, twice, sym w.location.ensures)
            (λ l known. elim (known_split location_of os n l known) [
              | inl old ↦ inl old
              | inr now ↦ inr (w.location.ensures ∙ now.1)
            ]))
        | else-is_twice w ↦ rw w.first-is (first_kept passed _ _ (λ l old. old)
            (λ l known. elim (known_split location_of os n l known) [
              | inl old ↦ old
              | inr now ↦ absurd (true≢false (sym (c.is_twice.ensures.1 now.0) ∙ w.if-is_twice.false))
            ]))
      ]);
    }

pub returns : goal.returns
returns c = grind (arith, passed_all)
