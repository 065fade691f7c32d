use Rattle.proto_names.proofs.Common.{◌≡◌, ◌∙◌, ◌<◌, [], ap, ap₂, append_assoc, append-nil, arith, length, ◌==◌, get_or_default, filter_more, IsKeyAmong, at_key, part_at, at, blank, share_at}
use Rattle.proto_names.proofs.Searching.{keys_more}
use Rattle.proto_names.proofs.keys.put_keys.Goals as goal
use Rattle.proto_names.proofs.keys.put_keys.Goals.{then-has+in_ok-push, else-has}

pub loop-index-preserved : goal.loop-index-preserved
loop-index-preserved c =
    let parts = c.args.collected.now in
    let k = c.args.part in
    let index = c.loop-index.index in
    let here = part_at parts k in
    let is : c.index-entries.result.now ≡ here =
    rw (← c.collected.view_is) (c.index-entries.ensures
    ∙ get_or_default c.collected.inside.parts.items k _ [] (rw (← c.collected.view_is) at c.requires.part)) in
    let inside : index < length here =
    omega (arith, ap length is, c.len-index-end.ensures, c.loop-index-test.true) in
    let hash = rw is at c.hash-hash.ensures in
    let told = rw hash at c.has.ensures in
    let more = rw (← told)
    at (filter_more (λ o. share_at c.args.share.count o == c.args.share.position) here index blank inside) in
    elim c.if-has.branch [
      | then-has+in_ok-push w ↦
          let key = w.key_of.result in
          let put = w.key_of.ensures in
          let found : at_key parts key ≡ at here index = ap₂ (λ k i. at (part_at parts k) i) put.part put.index in
          let among : IsKeyAmong parts key = grind (arith, put, inside, hash, found) in
          rw w.keys-is (keys_more parts c.loop-index.keys.items _ c.loop-index.invariant key _ _ among
          w.in_ok-push.ensures.items (grind (arith, append_assoc, more, found)))
      | else-has w ↦ rw (w.keys-is, more, w.if-has.false, append-nil) c.loop-index.invariant
    ]
