use Rattle.proto_names.proofs.Common.{◌<◌, ◌∙◌, ap, arith, length, string_bytes}
use Rattle.proto_names.specs.Hashes.{spread}
use Rattle.proto_names.specs.declared.entry.Entry.{Entry}
use Rattle.proto_names.proofs.EntryLemmas.{told_length}
use Rattle.proto_names.proofs.entries.Entries.hash.Goals as goal

pub index-requires : goal.index-requires
index-requires c = omega (
  arith,
  rw (← c.self.view_is) at c.requires,
  told_length (string_bytes c.self.inside.text) c.self.inside.entries.items,
  c.self.inside.entries.ok.0,
)

pub returns : goal.returns
returns c =
    let entries = c.self.inside.entries.items in
    let inside : c.args.position < length entries =
    omega (arith, rw (← c.self.view_is) at c.requires, told_length (string_bytes c.self.inside.text) entries) in
    c.spread.ensures ∙ ap spread (ap (λ (e : Entry). e.rolling) c.index.ensures
    ∙ (rw c.self.view_is at (c.self.invariant c.args.position c.index.result.now inside)).hashed)
