use Rattle.proto_names.proofs.Common.{◌∙◌, ap, sym, hash_of}
use Rattle.proto_names.proofs.tables.Tables.named.Goals as goal

pub returns-clause-found : goal.returns-clause-found
returns-clause-found c o within =
    let w = c.named.ensures.found o within in (c.with_hash.ensures.found o w.0, w.1)

pub returns-clause-all : goal.returns-clause-all
returns-clause-all c o within name =
    c.named.ensures.all o (c.with_hash.ensures.all o within (ap hash_of name ∙ sym c.hash_with-hash.ensures)) name
