use Rattle.proto_names.proofs.Common.{◌≡◌, ◌<◌, length, take, arith, lit<, common_steps, rfind_char}
use Rattle.proto_names.proofs.Unique.{prefixes_at_dot, prefixes_plain}
use Rattle.proto_names.proofs.scope.shorter_prefix.Goals as goal

pub returns : goal.returns
returns c =
    let text = c.args.text.now in
    let dot = c.in_ok-dot.dot in
    let found = rw c.in_ok-dot.was at (rfind_char 46 text c.rfind.result c.rfind.ensures.cases (lit< tt)) in
    let prefix : c.range.result.now ≡ take dot text = grind (arith, common_steps) in
    let below : dot < length text = found.0 in
    rw prefix (prefixes_at_dot text dot below found.1 found.2, grind (arith, common_steps), grind (arith, common_steps))

pub returns-in_err-dot : goal.returns-in_err-dot
returns-in_err-dot c = rw c.from_residual.ensures (prefixes_plain c.args.text.now
    (rw c.in_err-dot.was at (rfind_char 46 c.args.text.now c.rfind.result c.rfind.ensures.cases (lit< tt))))
