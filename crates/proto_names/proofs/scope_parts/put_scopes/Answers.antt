use Rattle.proto_names.proofs.Common.{◌≡◌, ◌∙◌, ◌<◌, ◌≤◌, ◌*◌, ap, sym, arith, length, take, take_all, true≢false, is_scope, at, hash_of, rolling_hash, columns_of}
use Rattle.proto_names.proofs.Parting.{parts_kept, parts_next, parts_set}
use Rattle.proto_names.proofs.Starting.{rolling_below}
use Rattle.proto_names.specs.Hashes.{spread}
use Rattle.proto_names.proofs.scope_parts.put_scopes.Goals as goal
use Rattle.proto_names.proofs.scope_parts.put_scopes.Goals.{then-fits, else-fits}

pub loop-position-preserved : goal.loop-position-preserved
loop-position-preserved c =
    let os = c.args.names.now in
    let k = c.loop-position.position in
    let slots = c.args.slots in
    let bits = c.loop-position.bits in
    let so_far = c.loop-position.invariant in
    let inside : k < length os = omega (arith, c.len-position-end.ensures, c.loop-position-test.true) in
    let room : slots * 64 ≤ columns_of bits = omega (arith, so_far.large.width, c.requires.columns) in
    elim c.if-fits.branch [
      | then-fits w ↦
          let name = (at os k).name in
          let part = w.last_part-part.result.now in
          let (before, parted) = rw w.bytes.ensures.name at w.last_part-part.ensures in
          let rolling = w.unspread.ensures (rolling_hash name) (rolling_below name) w.hash.ensures in
          let ahead = w.hash_before-before.ensures before (rolling ∙ ap rolling_hash parted.whole) in
          let hashed : w.spread.result ≡ hash_of part = w.spread.ensures ∙ ap spread w.with_bytes.ensures in
          let put = rw (w.column_of.ensures.column, hashed, ahead) at w.insert.ensures in
          let kept = parts_kept slots _ _ _ c.requires.some room put in
          rw w.bits-is (record {
            large = record { rows = put.large.rows ∙ so_far.large.rows; width = put.large.width ∙ so_far.large.width };
            kept = λ b p is. kept b p (so_far.kept b p is);
            told = parts_next os k slots _ _ inside kept
                (λ is. parts_set slots name before part _ _ c.requires.some room parted put) so_far.told;
          })
      | else-fits w ↦
          rw w.bits-is (record {
            large = so_far.large;
            kept = so_far.kept;
            told = parts_next os k slots bits bits inside (λ b p is. is) (λ is. absurd (true≢false
                (sym is ∙ ap is_scope (sym c.kind.ensures) ∙ sym c.fits.ensures ∙ w.if-fits.false))) so_far.told;
          })
    ]

pub returns-clause-told : goal.returns-clause-told
returns-clause-told c =
    let os = c.args.names.now in
    let whole : take c.loop-position.position os ≡ os = take_all c.loop-position.position os
    (omega (arith, c.len-position-end.ensures, c.loop-position-test.false)) in
    rw whole at c.loop-position.invariant.told
