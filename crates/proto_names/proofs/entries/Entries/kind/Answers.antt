use Rattle.proto_names.proofs.Common.{arith, string_bytes}
use Rattle.proto_names.proofs.EntryLemmas.{told_at, told_beyond}
use Rattle.proto_names.proofs.entries.Entries.kind.Goals as goal

pub returns-in-Some : goal.returns-in-Some
returns-in-Some c =
    let text = string_bytes c.self.inside.text in
    let told = told_at text c.self.inside.entries.items c.args.position c.in-Some.entry.now in
    rw (← c.self.view_is) (grind (arith, told))

pub returns-in-None : goal.returns-in-None
returns-in-None c =
    let beyond = told_beyond (string_bytes c.self.inside.text) c.self.inside.entries.items c.args.position in
    rw (← c.self.view_is) (grind (arith, beyond))
