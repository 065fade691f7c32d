use Rattle.std.proofs.Common.{rules, arith}
use Rattle.std.proofs.lemmas.Grind.{pieces}
use Rattle.proto_compile.proofs.OneTyping.{same_length, same_names}
use Rattle.proto_compile.proofs.analysing.analyse.Goals as goal

pub lookup_of-requires-after_bounds : goal.lookup_of-requires-after_bounds
lookup_of-requires-after_bounds g c κs h = grind (arith, same_names)

pub returns-in_err-lookup-clause-first : goal.returns-in_err-lookup-clause-first
returns-in_err-lookup-clause-first g c sources few order =
    let refused = (rw c.deref.ensures.value at c.in_err-lookup.ensures.first) sources c.args.files.now
    (record { few = few; by_name = order; each = c.in_ok-descs.ensures.described }) in
    search (rules, refused)

pub resolve_all-requires-clause-files : goal.resolve_all-requires-clause-files
resolve_all-requires-clause-files g c κs h = grind (arith, same_length)

pub returns-clause-resolved : goal.returns-clause-resolved
returns-clause-resolved g c sources few order = record {
  descs = c.in_ok-descs.descs.items;
  analysed = grind (arith, few, order);
  each = grind arith;
}

pub returns-in_err-descs-2-clause-first : goal.returns-in_err-descs-2-clause-first
returns-in_err-descs-2-clause-first g c = search (pieces, arith)
