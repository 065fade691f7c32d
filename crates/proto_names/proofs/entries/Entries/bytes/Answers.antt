use Rattle.proto_names.proofs.Common.{◌≡◌, ◌<◌, refl, arith, length, take, get_or, at, string_bytes}
use Rattle.proto_names.proofs.EntryLemmas.{told_at, told_beyond, no_text, scope_before, scope_beyond}
use Rattle.proto_names.specs.Entries.{occurrence_behind, occurrences_of_entries, own_name, named_entry}
use Rattle.proto_names.proofs.entries.Entries.bytes.Goals as goal
use Rattle.proto_names.proofs.entries.Entries.bytes.Goals.{then-entry-position, else-entry-position}

pub returns-in_default-clause-name : goal.returns-in_default-clause-name
returns-in_default-clause-name c =
    let beyond = told_beyond (string_bytes c.self.inside.text) c.self.inside.entries.items c.args.position in
    rw (← c.self.view_is) (grind (arith, beyond))

pub invariant_of-result : goal.invariant_of-result
invariant_of-result c =
    let e = c.in-Some.entry.now in
    let here : (c.args.position < length c.self.inside.entries.items)
    × (get_or c.self.inside.entries.items c.args.position e ≡ e) = grind arith in
    elim c.if-entry-position.branch [
      | then-entry-position w ↦
          rw (w.scope-is, ← c.self.view_is)
          ((rw here.1 at (c.self.invariant c.args.position e here.0)).named w.if-entry-position.true)
      | else-entry-position w ↦ rw w.scope-is tt
    ]

pub returns-clause-name : goal.returns-clause-name
returns-clause-name c =
    let e = c.in-Some.entry.now in
    let text = string_bytes c.self.inside.text in
    let es = c.self.inside.entries.items in
    let os = occurrences_of_entries text es in
    let here : (c.args.position < length es) × (get_or es c.args.position e ≡ e) = grind arith in
    let whole : at os c.args.position ≡ occurrence_behind (take c.args.position os) (named_entry text e) =
    rw here.1 at (told_at text es c.args.position e here.0) in
    let own : c.own_name.result.now ≡ own_name text e = rw c.as_bytes.ensures.value at c.own_name.ensures in
    elim c.if-entry-position.branch [
      | then-entry-position w ↦
          rw (
            w.scope-is,
            own,
            ← c.self.view_is,
            whole,
            scope_before os c.args.position e.scope w.if-entry-position.true,
          ) refl
      | else-entry-position w ↦
          rw (
            w.scope-is,
            own,
            ← c.self.view_is,
            whole,
            scope_beyond os c.args.position e.scope (omega (arith, w.if-entry-position.false)),
          ) refl
    ]

pub returns-clause-text : goal.returns-clause-text
returns-clause-text c =
    let e = c.in-Some.entry.now in
    let here : c.args.position < length c.self.inside.entries.items = grind arith in
    rw (returns-clause-name c, ← c.self.view_is) (c.self.invariant c.args.position e here).is_text

pub returns-in_default-clause-text : goal.returns-in_default-clause-text
returns-in_default-clause-text c = rw c.empty.ensures no_text
