use Rattle.proto_compile.proofs.Common.{get_or-take, map, ◌≡◌, ◌<◌, ◌+◌, ◌++◌, ◌∷◌, [], ◌∙◌, arith, length, length-append, length-map, map-append, take_more, file_bytes, names_differ, items_of}
use Rattle.std.proofs.lemmas.Iterator.Adapters.{YieldsList-from_vec}
use Rattle.std.proofs.lemmas.Iterator.Consumers.{YieldsList-turn}
use Rattle.proto_compile.specs.Sources.{name_of}
use Rattle.proto_compile.proofs.Sorting.{name_is}
use Rattle.proto_compile.proofs.OneTyping.{as_many}
use Rattle.proto_compile.proofs.compiling.table_of.Goals as goal

pub push-requires : goal.push-requires
push-requires c a named =
    let gives = c.into_iter-bytes-iterator.ensures.into_iter_gives in
    let all = YieldsList-from_vec c.args.written.items gives.0 (omega (arith, gives.1)) in
    let turn = YieldsList-turn all _ c.loop-bytes.bytes-iterator c.loop-bytes.yielded_by _ c.next.new.self _
    c.in-Some.is c.next.ensures.steps in
    let at : c.len-file.result ≡ length c.loop-bytes.yielded =
    c.len-file.ensures ∙ as_many file_bytes items_of _ c.loop-bytes.yielded c.loop-bytes.invariant.bytes in
    let below : c.len-file.result < length c.args.sources.now = omega (arith, at, turn.0, c.requires.length) in
    let names = rw (← at) at c.loop-bytes.invariant.names in
    grind (arith, get_or-take, length-map, names_differ (map name_of c.args.sources.now) c.requires.names, name_is)

pub loop-bytes-preserved : goal.loop-bytes-preserved
loop-bytes-preserved c =
    let gives = c.into_iter-bytes-iterator.ensures.into_iter_gives in
    let all = YieldsList-from_vec c.args.written.items gives.0 (omega (arith, gives.1)) in
    let turn = YieldsList-turn all _ c.loop-bytes.bytes-iterator c.loop-bytes.yielded_by _ c.next.new.self _
    c.in-Some.is c.next.ensures.steps in
    let at : c.len-file.result ≡ length c.loop-bytes.yielded =
    c.len-file.ensures ∙ as_many file_bytes items_of _ c.loop-bytes.yielded c.loop-bytes.invariant.bytes in
    let below : c.len-file.result < length c.args.sources.now = omega (arith, at, turn.0, c.requires.length) in
    let names = rw (← at) at c.loop-bytes.invariant.names in
    let more : length (c.loop-bytes.yielded ++ c.in-Some.bytes ∷ []) ≡ c.len-file.result + 1 =
    omega (arith, at, length-append c.loop-bytes.yielded (c.in-Some.bytes ∷ [])) in
    record {
      names = rw (more, c.in_ok-push.ensures) (grind (arith, length-map, map-append, take_more, name_is));
      bytes = rw c.in_ok-push.ensures (grind (arith, map-append, c.loop-bytes.invariant.bytes));
    }
