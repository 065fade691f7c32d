use Rattle.proto_names.proofs.Common.{◌<◌, ◌∙◌, ap, arith, length, string_bytes}
use Rattle.proto_names.specs.declared.entry.Entry.{Entry}
use Rattle.proto_names.proofs.EntryLemmas.{rolling_scope, told_length}
use Rattle.proto_names.proofs.entries.Entries.hash_before_name.Goals as goal

pub index-requires : goal.index-requires
index-requires c =
    let among = rw (c.in-Some.is, ← c.self.view_is) at c.requires in
    let entries = c.self.inside.entries in
    omega (arith, among.0, told_length (string_bytes c.self.inside.text) entries.items, entries.ok.0)

pub returns-in-Some : goal.returns-in-Some
returns-in-Some c name =
    let entries = c.self.inside.entries.items in
    let among = rw (c.in-Some.is, ← c.self.view_is) at c.requires in
    let inside : c.in-Some.position < length entries =
    omega (arith, among.0, told_length (string_bytes c.self.inside.text) entries) in
    let hash = ap (λ (e : Entry). e.rolling) c.index.ensures
    ∙ (c.self.invariant c.in-Some.position c.index.result.now inside).hashed in
    rw (c.in-Some.is, ← c.self.view_is, c.with_byte.ensures, hash) (rolling_scope _ name among.1)
