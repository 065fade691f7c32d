use Rattle.proto_names.proofs.Common.{◌≡◌, ◌∙◌, ◌<◌, ap, sym, arith, length, take, take_all, true≢false, is_scope}
use Rattle.proto_names.proofs.Starting.{tells_next, tells_set}
use Rattle.proto_names.proofs.scope_hashes.ScopeHashes.among.Goals as goal
use Rattle.proto_names.proofs.scope_hashes.ScopeHashes.among.Goals.{then-fits, else-fits}

pub loop-position-preserved : goal.loop-position-preserved
loop-position-preserved c =
    let os = c.args.names.now in
    let k = c.loop-position.position in
    let (row, room, told) = c.loop-position.invariant in
    let inside : k < length os = omega (arith, c.len-position-end.ensures, c.loop-position-test.true) in
    elim c.if-fits.branch [
      | then-fits w ↦
          let put = rw (w.slot_of.ensures.slot, w.hash-hash.ensures) at w.insert.ensures in
          let more = rw (w.slot_of-then-fits.ensures.slot, w.spread.ensures, w.hash-hash.ensures)
          at w.insert-then-fits.ensures in
          rw w.bits-is (
            rw (more.large.rows, put.large.rows) row,
            rw (more.large.width, put.large.width) room,
            tells_set os k _ _ _ _ inside (omega arith) room put more told,
          )
      | else-fits w ↦
          rw w.bits-is (
            row,
            room,
            tells_next os k _ c.loop-position.bits c.loop-position.bits inside (λ name is. is) (λ is. absurd (true≢false
                (sym is ∙ ap is_scope (sym c.kind.ensures) ∙ sym c.fits.ensures ∙ w.if-fits.false))) told,
          )
    ]

pub returns : goal.returns
returns c =
    let os = c.args.names.now in
    let whole : take c.loop-position.position os ≡ os = take_all c.loop-position.position os
    (omega (arith, c.len-position-end.ensures, c.loop-position-test.false)) in
    rw whole at c.loop-position.invariant.2
