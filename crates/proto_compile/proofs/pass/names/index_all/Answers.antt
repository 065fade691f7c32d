use Rattle.proto_compile.proofs.Common.{ap, arith, Err, name_is}
use Rattle.proto_compile.proofs.LeastFault.{told, many_names_least, name_twice_least}
use Rattle.proto_compile.proofs.OneTyping.{repeated_within}
use Rattle.proto_compile.proofs.pass.names.index_all.Goals as goal

pub offset_bounds-descs-at : goal.offset_bounds-descs-at
offset_bounds-descs-at g c =
    let twice = c.in-Err-At.ensures.twice c.in-Err-At.at c.in-Err-At.place (ap Err c.in-Err-At.field-0-is) in
    omega (arith, repeated_within c.args.limits.now c.args.descs.now c.in-Err-At.at c.in-Err-At.place twice)

pub bounds-descs-at : goal.bounds-descs-at
bounds-descs-at g c = repeated_within c.args.limits.now c.args.descs.now c.in-Err-At.at c.in-Err-At.place
    (c.in-Err-At.ensures.twice c.in-Err-At.at c.in-Err-At.place (ap Err c.in-Err-At.field-0-is))

pub returns-in-Err-TooMany-clause-first : goal.returns-in-Err-TooMany-clause-first
returns-in-Err-TooMany-clause-first g c sources files right described =
    let many = c.in-Err-TooMany.ensures.many (ap Err c.in-Err-TooMany.field-0-is) in
    grind (arith, told, many_names_least c.args.limits.now sources files c.args.descs.now described right many)

pub returns-in-Err-At-clause-first : goal.returns-in-Err-At-clause-first
returns-in-Err-At-clause-first g c sources files right described =
    let limits = c.args.limits.now in
    let descs = c.args.descs.now in
    let at = c.in-Err-At.at in
    let place = c.in-Err-At.place in
    let twice = c.in-Err-At.ensures.twice at place (ap Err c.in-Err-At.field-0-is) in
    let least = name_twice_least limits sources files descs at place described right twice in
    grind (arith, told, least, name_is descs at c.index-descs-at.result (repeated_within limits descs at place twice))
