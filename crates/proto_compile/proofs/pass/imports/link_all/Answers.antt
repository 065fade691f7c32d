use Rattle.proto_compile.proofs.Common.{arith, ap, Err, name_is}
use Rattle.proto_compile.proofs.LeastFault.{told, import_least}
use Rattle.proto_compile.proofs.OneTyping.{bad_inside}
use Rattle.proto_compile.proofs.pass.imports.link_all.Goals as goal

pub returns-in-Err-At-clause-first : goal.returns-in-Err-At-clause-first
returns-in-Err-At-clause-first c limits sources files described =
    let descs = c.args.descs.now in
    let at = c.in-Err-At.at in
    let place = c.in-Err-At.place in
    let what = c.in-Err-At.kind in
    let bad = c.in-Err-At.ensures.bad at place what (ap Err c.in-Err-At.field-0-is) in
    let least = import_least limits sources files descs at place what described bad in
    let below = bad_inside descs at place what bad.among in
    grind (arith, told, least, name_is descs at c.index-descs-at.result below)
