use Rattle.proto_names.proofs.Common.{◌≡◌, ◌<◌, ◌∙◌, sym, arith, common_steps, false, length, take_more, at, blank}
use Rattle.proto_names.proofs.Starting.{untold}
use Rattle.proto_names.specs.Index.{is_service_kind}
use Rattle.proto_names.proofs.sorted.listed_services.Goals as goal
use Rattle.proto_names.proofs.sorted.listed_services.Goals.{then-tells+then-is_service+in_ok-to_text+in_ok-push, else-tells, else-tells-via-then-tells+else-is_service, else-tells-via-else-tells}

pub loop-position-preserved : goal.loop-position-preserved
loop-position-preserved c =
    let os = c.args.names.now in
    let k = c.loop-position.position in
    let inside : k < length os = omega (arith, c.len-position-end.ensures, c.loop-position-test.true) in
    let more = take_more os k blank inside in
    elim c.if-tells.branch [
      | then-tells+then-is_service+in_ok-to_text+in_ok-push w ↦ rw w.services-is (grind (arith, common_steps, more))
      | else-tells w ↦ rw w.services-is (elim w.else-tells.branch [
        | else-tells-via-then-tells+else-is_service v ↦ grind (arith, common_steps, more)
        | else-tells-via-else-tells v ↦ (let other : is_service_kind (at os k).kind ≡ false =
            untold os _ _ k _ c.requires inside c.hash.ensures (sym c.tells.ensures ∙ v.if-tells.false) in
            grind (arith, common_steps, more))
      ])
    ]
