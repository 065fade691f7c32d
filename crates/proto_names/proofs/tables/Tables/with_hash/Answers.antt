use Rattle.proto_names.proofs.Common.{◌≡◌, ◌∙◌, arith, ◌%◌, length, mod_below, slice_get_read, hash_of}
use Rattle.proto_names.proofs.Tabled.{among_all, among_one}
use Rattle.proto_names.proofs.tables.Tables.with_hash.Goals as goal

pub returns-clause-found : goal.returns-clause-found
returns-clause-found c o within =
    let tables = c.self.inside.tables.items in
    let some = mod_below c.args.hash c.len.result (omega (arith, c.self.invariant.0.some)) in
    let len = c.len.ensures ∙ c.self.inside.tables.ok.0 in
    let here = slice_get_read tables c.len.result _ _ len some (rw c.share_of_hash.ensures at c.index.ensures) in
    rw c.self.view_is at (among_all tables _ _ o here within)

pub returns-clause-all : goal.returns-clause-all
returns-clause-all c o within same =
    let tables = c.self.inside.tables.items in
    let len : c.len.result ≡ length tables = c.len.ensures ∙ c.self.inside.tables.ok.0 in
    let some = mod_below c.args.hash c.len.result (omega (arith, c.self.invariant.0.some)) in
    let here = slice_get_read tables c.len.result _ _ len some (rw c.share_of_hash.ensures at c.index.ensures) in
    let key : hash_of o.name % length tables ≡ c.args.hash % c.len.result = cc same in
    among_one tables _ _ o c.self.invariant.0 here key (rw c.self.view_is within)
